-- The message sleeps under the ids so far.
use Rattle.std.proofs.Common.{drop}
use Rattle.journal_audit.proofs.Sleeps.{LaidSoFar}
use Rattle.journal_audit.proofs.sleeping.add_under.Given as goal

abbrev pub invariant-loop-id : goal.invariant-loop-id
invariant-loop-id l = LaidSoFar l.n l.ids (drop l.id-index l.ids) l.initial.sleepers l.sleepers
