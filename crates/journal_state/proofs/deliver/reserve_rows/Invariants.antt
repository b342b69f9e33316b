use Rattle.std.proofs.Common.{◌≡◌, ℕ, ◌<◌, ◌≤◌, true, length}
use Rattle.retry_table.specs.Table as retry
use Rattle.journal_state.specs.Delivery.{goes_to, GrowsRoom}
use Rattle.journal_state.proofs.deliver.reserve_rows.Given as goal

abbrev pub invariant-loop-place : goal.invariant-loop-place
invariant-loop-place l = record {
  same : GrowsRoom l.fn.retry l.retry;
  room : (contact : ℕ) → contact < l.place → goes_to l.table.levels l.group l.outgoing contact ≡ true → l.numbers ≤ length (retry.rows_of l.retry contact);
}
