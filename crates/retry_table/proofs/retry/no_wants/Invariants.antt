use Rattle.std.proofs.Common.{◌≡◌, ℕ, length, slice_index_or}
use Rattle.retry_table.specs.Table.{no_wants}
use Rattle.retry_table.proofs.retry.no_wants.Given as goal

abbrev pub invariant-loop-i : goal.invariant-loop-i
invariant-loop-i l = ((contact : ℕ) → slice_index_or l.wants.items contact no_wants ≡ no_wants) × (length l.wants.items ≡ l._i)
