use Rattle.std.proofs.Common.{◌≡◌, ◌<◌, ◌≤◌, ℕ, false, Some}
use Rattle.std.specs.List.{slice_get}
use Rattle.sync_rules.specs.Facts.{row_at}
use Rattle.journal_audit.specs.declared.messages.Line.{Line}
use Rattle.journal_audit.specs.Early.{goes_early}
use Rattle.journal_audit.proofs.facts.PlainFacts.first_early.Given as goal

abbrev pub invariant-loop-n : goal.invariant-loop-n
invariant-loop-n l =
    (n : ℕ) (x : Line) → l.from ≤ n → n < l.n → slice_get l.self.messages.lines n ≡ Some x → goes_early l.latency l.now (row_at l.self.rows l.contact x.id) ≡ false
