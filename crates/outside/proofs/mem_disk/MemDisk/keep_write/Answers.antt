use Rattle.std.proofs.Common.{◌≤◌, sym, ap, ◌∙◌, subst, map, length}
use Rattle.outside.specs.Files.{file_of, with_file}
use Rattle.outside.specs.Disk.{overwritten}
use Rattle.outside.specs.MemDisk.{two_of, kept_after, both_kept, change_of, bytes_of, disk_files, MemDiskValue}
use Rattle.outside.proofs.MemSteps.{kept_step, wrote_bytes, wrote_not_bytes}
use Rattle.outside.proofs.mem_disk.MemDisk.keep_write.Goals as goal

pub invariant_of-self-then-fails : goal.invariant_of-self-then-fails
invariant_of-self-then-fails c =
    let s = c.self.inside in
    let start = both_kept (two_of s.start0.items s.start1.items) in
    let two = kept_after start (map change_of s.calls.items) in
    kept_step start s.calls.items _ _ _ _ c.note.ensures c.in_ok-reserve.ensures.items (wrote_not_bytes two c.args.file c.args.at c.in_ok-kept.kept.items _ c.self.invariant)

pub invariant_of-self-else-fails : goal.invariant_of-self-else-fails
invariant_of-self-else-fails c =
    let s = c.self.inside in
    let start = both_kept (two_of s.start0.items s.start1.items) in
    let two = kept_after start (map change_of s.calls.items) in
    let now = two_of s.file0.items s.file1.items in
    let within : c.args.at ≤ length (file_of now c.args.file) =
    subst (λ b. c.args.at ≤ length (file_of b c.args.file)) c.self.invariant
    (subst (λ (v : MemDiskValue). c.args.at ≤ length (file_of (bytes_of (disk_files v)) c.args.file)) (sym c.self.view_is) c.requires.place) in
    let written = c.in_ok-put_in.ensures.ok ∙ ap (λ b. with_file now c.args.file (overwritten (file_of now c.args.file) c.args.at b)) (sym c.in_ok-kept.ensures.items) in
    kept_step start s.calls.items _ _ _ _ c.note-else-fails.ensures c.in_ok-reserve.ensures.items (wrote_bytes two c.args.file c.args.at c.in_ok-kept.kept.items now _ c.self.invariant within written)
