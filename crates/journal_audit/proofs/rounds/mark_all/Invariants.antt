-- So many messages are marked.
use Rattle.std.proofs.Common.{◌-◌, length}
use Rattle.journal_audit.specs.Rounding.{AreMarked}
use Rattle.journal_audit.proofs.rounds.mark_all.Given as goal

abbrev pub invariant-rounds : goal.invariant-rounds
invariant-rounds l = AreMarked l.of_good l.messages.lines l.marks l.count

abbrev pub decreases-rounds : goal.decreases-rounds
decreases-rounds l = length l.messages.lines - l.count
