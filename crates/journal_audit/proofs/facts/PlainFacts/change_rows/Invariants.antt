-- The rows so far are changed.
use Rattle.std.proofs.Common.{drop}
use Rattle.journal_audit.specs.Rows.{changed_by}
use Rattle.journal_audit.proofs.Took.{RowsSoFar}
use Rattle.journal_audit.proofs.facts.PlainFacts.change_rows.Given as goal

abbrev pub invariant-loop-id : goal.invariant-loop-id
invariant-loop-id l = RowsSoFar l.initial.self l.self l.contact l.ids (drop l.id-index l.ids) (changed_by l.change)
