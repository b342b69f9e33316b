use Rattle.std.proofs.Common.{map}
use Rattle.outside.specs.MemDisk.{two_of, kept_after, both_kept, change_of}
use Rattle.outside.proofs.MemSteps.{kept_step, cut_bytes, cut_not_bytes}
use Rattle.outside.proofs.mem_disk.MemDisk.keep_cut.Goals as goal

pub invariant_of-self-then-fails : goal.invariant_of-self-then-fails
invariant_of-self-then-fails c =
    let s = c.self.inside in
    let start = both_kept (two_of s.start0.items s.start1.items) in
    let two = kept_after start (map change_of s.calls.items) in
    kept_step start s.calls.items _ _ _ _ c.note.ensures c.in_ok-reserve.ensures.items (cut_not_bytes two c.args.file c.args.len _ c.self.invariant)

pub invariant_of-self-else-fails : goal.invariant_of-self-else-fails
invariant_of-self-else-fails c =
    let s = c.self.inside in
    let start = both_kept (two_of s.start0.items s.start1.items) in
    let two = kept_after start (map change_of s.calls.items) in
    kept_step start s.calls.items _ _ _ _ c.note-else-fails.ensures c.in_ok-reserve.ensures.items (cut_bytes two c.args.file c.args.len _ _ c.self.invariant c.cut_in.ensures)
