use Rattle.std.proofs.Common.{◌≡◌}
use Rattle.test_records.proofs.digests.digest_by_bytes.Given as goal

abbrev pub invariant-loop-byte : goal.invariant-loop-byte
invariant-loop-byte l = l.hasher.count ≡ l.byte-index
