use Rattle.std.proofs.Common.{◌≡◌, ◌*◌, length, take}
use Rattle.std.specs.List.{flat_map}
use Rattle.entry_codec.specs.Spelling.{whole}
use Rattle.entry_codec.proofs.lengths.sum_len.Given as goal

-- the length of the ids so far, each of 32 bytes
abbrev pub invariant-ids : goal.invariant-ids
invariant-ids l = record {
  so_far : l.len ≡ length (flat_map whole (take l.id-index l.ids));
  each : l.len ≡ 32 * l.id-index;
}
