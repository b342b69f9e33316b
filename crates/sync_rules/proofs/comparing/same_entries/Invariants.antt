-- What is left of both lists is the same exactly where the lists are.
use Rattle.std.proofs.Common.{◌≡◌, drop}
use Rattle.std.specs.Cmp.Lexicographic.{pointwise}
use Rattle.sync_rules.specs.Allows.{same_entry}
use Rattle.sync_rules.proofs.comparing.same_entries.Given as goal

abbrev pub invariant-loop-entry : goal.invariant-loop-entry
invariant-loop-entry l = pointwise same_entry (drop l.entry-index l.a) l.left ≡ pointwise same_entry l.a l.b
