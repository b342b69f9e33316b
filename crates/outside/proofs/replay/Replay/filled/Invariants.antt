use Rattle.std.proofs.Common.{◌≡◌, ℕ, ◌<◌, get_or, length}
use Rattle.outside.specs.MemImage.{left_at}
use Rattle.outside.proofs.replay.Replay.filled.Given as goal

abbrev pub invariant-loop-place : goal.invariant-loop-place
invariant-loop-place l =
    (length l.bytes.items ≡ l.place)
    × ((k : ℕ) → k < l.place → get_or l.bytes.items k 0 ≡ left_at l.byte l.self.file k)
