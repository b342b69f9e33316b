use Rattle.std.proofs.Common.{◌≡◌, ◌-◌, ◌^◌, [], length, take}
use Rattle.std.specs.Prelude.{min}
use Rattle.entry_codec.specs.Payloads.{spellings}
use Rattle.entry_codec.proofs.batches.batch_len.Given as goal

-- the length of the entries so far
abbrev pub invariant-entries : goal.invariant-entries
invariant-entries l = l.len ≡ min (length (spellings l.format [] (take l.entry-index l.entry-items))) (2 ^ 64 - 1)
