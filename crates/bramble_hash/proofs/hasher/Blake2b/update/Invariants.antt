use Rattle.std.proofs.Common.{◌≡◌, ◌+◌, ◌*◌, ◌/◌, length}
use Rattle.bramble_hash.proofs.Absorbing.{Follows}
use Rattle.bramble_hash.proofs.hasher.Blake2b.update.Given as goal

-- the hash value has taken in the kept block's place and i blocks more
abbrev pub invariant-blocks-2 : goal.invariant-blocks-2
invariant-blocks-2 g l = record {
  count : l.self-inside.done + length l.fn.self.kept ≡ l.fn.self.count + 128 * (l.i + 1);
  taken : Follows g.row.OUT l.fn.self l.bytes l.self-inside.h (l.self-inside.done / 128);
}
