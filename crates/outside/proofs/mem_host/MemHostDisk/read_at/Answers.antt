use Rattle.std.proofs.Common.{Some, ap, refl, sym}
use Rattle.outside.specs.MemDisk.{calls_of}
use Rattle.outside.specs.MemHost.{MemHostValue}
use Rattle.outside.specs.MemTold.{disk_told}
use Rattle.outside.proofs.MadeSteps.{does_as}
use Rattle.outside.proofs.mem_host.MemHostDisk.read_at.Goals as goal

pub returns-clause-does : goal.returns-clause-does
returns-clause-does c = does_as _ c.read_at.result (disk_told c.self.inside.disk) (disk_told c.read_at.new.self) _ _ c.read_at.ensures.does (ap (λ (h : MemHostValue). Some (calls_of h.disk)) (sym c.self.view_is)) refl
