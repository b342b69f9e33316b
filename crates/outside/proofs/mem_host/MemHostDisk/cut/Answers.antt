use Rattle.std.proofs.Common.{Some, ap, refl, sym}
use Rattle.outside.specs.MemDisk.{calls_of}
use Rattle.outside.specs.MemHost.{MemHostValue}
use Rattle.outside.specs.MemTold.{disk_told}
use Rattle.outside.proofs.MadeSteps.{does_as}
use Rattle.outside.proofs.HostCalls.{host_call, wired_makes}
use Rattle.outside.proofs.mem_host.MemHostDisk.cut.Goals as goal

pub returns-clause-call : goal.returns-clause-call
returns-clause-call c = host_call _ _ c.cut.result _ c.args.self.now c.cut.new.self c.self.view_is ((λ _. refl), (λ _. refl)) ((λ _. refl), (λ _. refl)) c.cut.ensures.makes

pub invariant_of-self : goal.invariant_of-self
invariant_of-self c = wired_makes _ _ c.cut.result c.self.inside.disk c.cut.new.self _ _ ((λ _. refl), (λ _. refl)) ((λ _. refl), (λ _. refl)) c.cut.ensures.makes c.self.invariant

pub returns-clause-does : goal.returns-clause-does
returns-clause-does c = does_as _ c.cut.result (disk_told c.self.inside.disk) (disk_told c.cut.new.self) _ _ c.cut.ensures.does (ap (λ (h : MemHostValue). Some (calls_of h.disk)) (sym c.self.view_is)) refl
