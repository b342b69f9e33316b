-- So many messages are marked.
use Rattle.journal_audit.specs.Rounding.{AreMarked}
use Rattle.journal_audit.proofs.rounds.mark_listed.Given as goal

abbrev pub invariant-loop-n : goal.invariant-loop-n
invariant-loop-n l = AreMarked l.of_good l.messages.lines l.marks l.count
