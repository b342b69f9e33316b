use Rattle.std.proofs.Common.{◌≡◌, ℕ, ◌<◌, ◌≤◌, false}
use Rattle.retry_table.specs.Queues.{is_sought}
use Rattle.retry_table.specs.Table.{kept_in}
use Rattle.retry_table.specs.Turns.{shown}
use Rattle.retry_table.proofs.contact_rows.ContactRows.walk.Given as goal

abbrev pub invariant-loop-n : goal.invariant-loop-n
invariant-loop-n l = (k : ℕ) → l.from ≤ k → k < l.n → is_sought l.sought (kept_in (shown l.released l.self.turns.entries l.self.queues) k) ≡ false
