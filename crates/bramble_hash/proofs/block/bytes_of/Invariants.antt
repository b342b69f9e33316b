use Rattle.std.proofs.Common.{◌≡◌, ◌*◌, length, take}
use Rattle.std.specs.Int.{w64, to_le_bytes}
use Rattle.std.specs.List.{flat_map}
use Rattle.bramble_hash.proofs.block.bytes_of.Given as goal

abbrev pub invariant-words : goal.invariant-words
invariant-words l = (length l.out ≡ 64) × (take (8 * l.i) l.out ≡ flat_map (to_le_bytes w64) (take l.i l.h))
