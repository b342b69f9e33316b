use Rattle.std.proofs.Common.{refl, inl, inr}
use Rattle.outside.proofs.MadeSteps.{makes_told_calls}
use Rattle.outside.proofs.MemCalls.{makes_cut}
use Rattle.outside.proofs.mem_disk.MemDiskDisk.cut.Goals as goal

pub returns-clause-cut : goal.returns-clause-cut
returns-clause-cut c = makes_cut c.args.file c.args.len c.make_cut.result c.args.self.now c.make_cut.new.self c.make_cut.ensures.makes

pub returns-clause-does : goal.returns-clause-does
returns-clause-does c = makes_told_calls _ _ c.make_cut.result c.args.self.now c.make_cut.new.self _ _ (record { fine_is = refl; failed_is = refl; left = inr refl; none = inl refl }) c.make_cut.ensures.makes refl refl
