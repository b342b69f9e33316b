use Rattle.std.proofs.Common.{refl}
use Rattle.outside.proofs.MadeSteps.{makes_told_calls}
use Rattle.outside.proofs.MemCalls.{makes_sync}
use Rattle.outside.proofs.mem_disk.MemDiskDisk.sync.Goals as goal

pub returns-clause-synced : goal.returns-clause-synced
returns-clause-synced c = makes_sync c.args.file c.make_sync.result c.args.self.now c.make_sync.new.self c.make_sync.ensures.makes

pub returns-clause-does : goal.returns-clause-does
returns-clause-does c = makes_told_calls _ _ c.make_sync.result c.args.self.now c.make_sync.new.self _ _ (record { fine_is = refl; failed_is = refl; left = refl; none = refl }) c.make_sync.ensures.makes refl refl
