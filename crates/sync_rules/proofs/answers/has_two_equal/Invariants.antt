-- The ids before the place equal none after them, so what is left has two equal ids where the whole has.
use Rattle.std.proofs.Common.{◌≡◌, drop}
use Rattle.sync_rules.specs.Lists.{has_repeat}
use Rattle.sync_rules.proofs.answers.has_two_equal.Given as goal

abbrev pub invariant-loop-i : goal.invariant-loop-i
invariant-loop-i l = has_repeat (drop l.i l.ids) ≡ has_repeat l.ids
