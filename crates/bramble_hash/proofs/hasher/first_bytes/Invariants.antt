use Rattle.std.proofs.Common.{◌≡◌, length, take}
use Rattle.bramble_hash.proofs.hasher.first_bytes.Given as goal

abbrev pub invariant-bytes : goal.invariant-bytes
invariant-bytes g l = (length l.out ≡ g.row.N) × (take l.i l.out ≡ take l.i l.bytes)
