-- What was pushed and what is left give what the whole gives.
use Rattle.std.proofs.Common.{◌≡◌, ◌++◌, drop}
use Rattle.plain_rules.specs.Lines.{lines_in}
use Rattle.plain_rules.proofs.lines.push_lines.Given as goal

abbrev pub invariant-loop-entry : goal.invariant-loop-entry
invariant-loop-entry l = l.lines.items ++ lines_in (drop l.entry-index l.entries) ≡ l.fn.lines.items ++ lines_in l.entries
