use Rattle.std.specs.Prelude.{◌*◌, ◌≤◌}
use Rattle.test_records.proofs.digests.hash_of.Given as goal

abbrev pub invariant-loop-part : goal.invariant-loop-part
invariant-loop-part g l = l.parts.count ≤ 1028 * l.part-index
