-- The first step of what is left is the first of all.
use Rattle.std.proofs.Common.{◌≡◌}
use Rattle.journal_audit.specs.Looks.{first_at}
use Rattle.journal_audit.specs.Sleeping.{steps_of}
use Rattle.journal_audit.proofs.settling.first_step.Given as goal

abbrev pub invariant-loop-n : goal.invariant-loop-n
invariant-loop-n l = first_at (steps_of l.messages) l.messages.lines l.n-iterator ≡ first_at (steps_of l.messages) l.messages.lines l.numbers.keys
