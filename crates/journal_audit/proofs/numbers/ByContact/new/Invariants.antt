use Rattle.std.proofs.Common.{◌≡◌, ℕ, false, length}
use Rattle.journal_audit.specs.Numbers.{has_for}
use Rattle.journal_audit.proofs.numbers.ByContact.new.Given as goal

abbrev pub invariant-loop : goal.invariant-loop
invariant-loop l = (length l.sets.items ≡ l.counter) × ((contact n : ℕ) → has_for l.sets.items contact n ≡ false)
