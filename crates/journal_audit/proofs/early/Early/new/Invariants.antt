use Rattle.std.proofs.Common.{◌≡◌, ℕ, length}
use Rattle.journal_audit.specs.Early.{mark_of}
use Rattle.journal_audit.proofs.early.Early.new.Given as goal

abbrev pub invariant-loop : goal.invariant-loop
invariant-loop l = record {
  many : length l.marks.items ≡ l.counter;
  none : (contact : ℕ) → (mark_of l.marks.items contact).from ≡ 0;
  first : l.none.from ≡ 0;
}
