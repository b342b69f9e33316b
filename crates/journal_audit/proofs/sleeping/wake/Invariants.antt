-- The sleepers so far are woken.
use Rattle.std.proofs.Common.{drop}
use Rattle.journal_audit.proofs.Sleeps.{WokenSoFar}
use Rattle.journal_audit.proofs.sleeping.wake.Given as goal

abbrev pub invariant-loop-n : goal.invariant-loop-n
invariant-loop-n l = WokenSoFar l.messages l.id l.sleepers (drop l.n-index l.sleepers) l.initial.waiting l.waiting
