use Rattle.std.proofs.Common.{◌≡◌, ℕ, false, length}
use Rattle.journal_audit.specs.Numbers.{has_alarm}
use Rattle.journal_audit.proofs.alarms.Alarms.new.Given as goal

abbrev pub invariant-loop : goal.invariant-loop
invariant-loop l = (length l.sets.items ≡ l.counter) × ((contact t n : ℕ) → has_alarm l.sets.items contact t n ≡ false)
