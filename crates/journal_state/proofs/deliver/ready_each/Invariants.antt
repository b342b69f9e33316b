use Rattle.std.proofs.Common.{◌≡◌, ◌≢◌, ℕ, ◌<◌, ◌≤◌, true, cond}
use Rattle.retry_table.specs.Table as retry
use Rattle.journal_state.specs.Delivery.{goes_to}
use Rattle.journal_state.proofs.deliver.ready_each.Given as goal

abbrev pub invariant-loop-place : goal.invariant-loop-place
invariant-loop-place l = record {
  done : (contact : ℕ) → contact < l.place
      → retry.kept_at l.retry contact l.n
      ≡ cond (goes_to l.table.levels l.group l.outgoing contact) (retry.with_ready true (retry.kept_at l.fn.retry contact l.n)) (retry.kept_at l.fn.retry contact l.n);
  left : (contact : ℕ) → l.place ≤ contact → retry.rows_of l.retry contact ≡ retry.rows_of l.fn.retry contact;
  apart : (contact k : ℕ) → k ≢ l.n → retry.kept_at l.retry contact k ≡ retry.kept_at l.fn.retry contact k;
  wants : l.retry.wants ≡ l.fn.retry.wants;
  groups : l.retry.groups ≡ l.fn.retry.groups;
}
