use Rattle.std.proofs.Common.{◌≡◌, ℕ, ◌≤◌, List, map, take}
use Rattle.outside.specs.MemDisk.{kept, change_of}
use Rattle.outside.specs.MemImage.{one_after}
use Rattle.outside.proofs.image.last_sync.Given as goal

abbrev pub invariant-loop-i : goal.invariant-loop-i
invariant-loop-i l =
    (l.synced ≤ l.i)
    × ((bytes : List ℕ) → one_after l.file (kept bytes) (map change_of (take l.synced l.calls)) ≡ kept (one_after l.file (kept bytes) (map change_of (take l.synced l.calls))).file.now)
