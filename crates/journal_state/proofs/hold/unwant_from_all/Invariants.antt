use Rattle.journal_state.specs.Unwanted.{UnwantsBelow}
use Rattle.journal_state.proofs.hold.unwant_from_all.Given as goal

abbrev pub invariant-loop-contact : goal.invariant-loop-contact
invariant-loop-contact l = UnwantsBelow l.contact l.initial.retry l.retry l.id
