use Rattle.std.proofs.Common.{refl, inl, inr}
use Rattle.outside.proofs.MadeSteps.{makes_told_calls}
use Rattle.outside.specs.MemDisk.{disk_files}
use Rattle.outside.proofs.MemCalls.{within_bytes, makes_call, makes_write}
use Rattle.outside.proofs.mem_disk.MemDiskDisk.write_at.Goals as goal

pub make_write-requires-clause-place : goal.make_write-requires-clause-place
make_write-requires-clause-place c = within_bytes (disk_files c.args.self.now) c.args.file c.args.at (c.requires.place _ refl)

pub returns-clause-call : goal.returns-clause-call
returns-clause-call c = makes_call _ _ c.make_write.result c.args.self.now c.make_write.new.self c.make_write.ensures.makes

pub returns-clause-written : goal.returns-clause-written
returns-clause-written c =
    makes_write c.args.file c.args.at c.args.bytes.now c.make_write.result c.args.self.now c.make_write.new.self
    (within_bytes (disk_files c.args.self.now) c.args.file c.args.at (c.requires.place _ refl)) c.make_write.ensures.makes

pub returns-clause-does : goal.returns-clause-does
returns-clause-does c = makes_told_calls _ _ c.make_write.result c.args.self.now c.make_write.new.self _ _ (record { fine_is = refl; failed_is = refl; left = inr refl; none = inl refl }) c.make_write.ensures.makes refl refl
