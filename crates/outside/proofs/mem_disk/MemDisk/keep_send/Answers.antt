use Rattle.outside.specs.MemDisk.{two_of, both_kept}
use Rattle.outside.proofs.MemSteps.{kept_step}
use Rattle.outside.proofs.mem_disk.MemDisk.keep_send.Goals as goal

pub invariant_of-self-2 : goal.invariant_of-self-2
invariant_of-self-2 c =
    let s = c.self.inside in
    kept_step (both_kept (two_of s.start0.items s.start1.items)) s.calls.items _ _ _ _ c.note.ensures c.in_ok-reserve.ensures.items c.self.invariant
