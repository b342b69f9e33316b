-- What a pass has come to.
use Rattle.journal_audit.proofs.Marks.{Passes}
use Rattle.journal_audit.proofs.rounds.mark_more.Given as goal

abbrev pub invariant-loop-n : goal.invariant-loop-n
invariant-loop-n l = Passes l.of_good l.messages.lines l.marks l.count l.now l.n
