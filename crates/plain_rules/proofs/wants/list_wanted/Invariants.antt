-- What was pushed and what is left give what the whole gives.
use Rattle.std.proofs.Common.{◌≡◌, ◌++◌, drop}
use Rattle.plain_rules.specs.Wants.{wanted_in}
use Rattle.plain_rules.proofs.wants.list_wanted.Given as goal

abbrev pub invariant-loop-line : goal.invariant-loop-line
invariant-loop-line l = l.ids.items ++ wanted_in l.contact (drop l.line-index l.lines) ≡ wanted_in l.contact l.lines
