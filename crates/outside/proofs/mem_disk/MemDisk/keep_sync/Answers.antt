use Rattle.std.proofs.Common.{map, refl}
use Rattle.outside.specs.MemDisk.{two_of, kept_after, both_kept, change_of}
use Rattle.outside.proofs.MemSteps.{kept_step, synced_bytes}
use Rattle.outside.proofs.mem_disk.MemDisk.keep_sync.Goals as goal

pub invariant_of-self-2 : goal.invariant_of-self-2
invariant_of-self-2 c =
    let s = c.self.inside in
    let start = both_kept (two_of s.start0.items s.start1.items) in
    let two = kept_after start (map change_of s.calls.items) in
    kept_step start s.calls.items _ _ _ _ c.in_ok-push.ensures.items refl (synced_bytes two c.args.file _ c.self.invariant)
