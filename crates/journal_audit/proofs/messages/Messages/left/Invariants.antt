-- What was counted, and what is left to count.
use Rattle.std.proofs.Common.{◌≡◌, ◌+◌, ◌*◌, ◌≤◌, drop}
use Rattle.journal_audit.specs.Lines.{left_in}
use Rattle.journal_audit.proofs.messages.Messages.left.Given as goal

abbrev pub invariant-loop-line : goal.invariant-loop-line
invariant-loop-line l = (l.left + left_in (drop l.line-index l.self.lines) ≡ left_in l.self.lines) × (l.left ≤ 2 * l.line-index)
