use Rattle.std.proofs.Common.{◌≡◌}
use Rattle.journal_state.proofs.levels.bring_each.Given as goal

abbrev pub invariant-loop-contact : goal.invariant-loop-contact
invariant-loop-contact l = l.retry ≡ l.initial.retry
