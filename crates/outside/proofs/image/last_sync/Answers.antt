use Rattle.std.proofs.Common.{◌≡◌, arith, sym, subst, ℕ, List, map, take}
use Rattle.outside.specs.MemDisk.{kept, change_of}
use Rattle.outside.specs.MemImage.{one_after}
use Rattle.outside.proofs.ImageSteps.{settles_more}
use Rattle.outside.proofs.image.last_sync.Goals as goal
use Rattle.outside.proofs.image.last_sync.Goals.{then-is_sync, else-is_sync}

pub loop-i-preserved : goal.loop-i-preserved
loop-i-preserved c =
    let P : ℕ → Type 0 = λ n. (bytes : List ℕ) → one_after c.args.file (kept bytes) (map change_of (take n c.args.calls.now)) ≡ kept (one_after c.args.file (kept bytes) (map change_of (take n c.args.calls.now))).file.now in
    elim c.if-is_sync.branch [
      | then-is_sync w ↦ (omega (arith, w.synced-is), settles_more c.args.file c.args.calls.now c.loop-i.i c.loop-i.synced c.if-is_sync.synced _ _ c.loop-i-test.true c.index-calls-i.is c.is_sync.ensures w.if-is_sync.true w.synced-is)
      | else-is_sync w ↦ (omega (arith, w.synced-is, c.loop-i.invariant.0), subst P (sym w.synced-is) c.loop-i.invariant.1)
    ]
