-- What was pushed and what is left give what the whole gives.
use Rattle.std.proofs.Common.{◌≡◌, ◌++◌, drop}
use Rattle.plain_rules.specs.Lines.{lines_among}
use Rattle.plain_rules.proofs.lines.held_lines.Given as goal

abbrev pub invariant-loop-batch : goal.invariant-loop-batch
invariant-loop-batch l = l.lines.items ++ lines_among (drop l.batch-index l.j) ≡ lines_among l.j
