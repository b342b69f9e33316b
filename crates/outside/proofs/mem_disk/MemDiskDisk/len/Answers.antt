use Rattle.std.proofs.Common.{refl}
use Rattle.outside.proofs.MadeSteps.{makes_told_calls, look_traces}
use Rattle.outside.proofs.mem_disk.MemDiskDisk.len.Goals as goal

pub returns-clause-does : goal.returns-clause-does
returns-clause-does c = makes_told_calls _ _ c.make_len.result c.args.self.now c.make_len.new.self _ _ look_traces c.make_len.ensures.makes refl refl
