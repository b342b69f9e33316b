-- The row is that of the entries so far.
use Rattle.std.proofs.Common.{◌≡◌, take}
use Rattle.sync_rules.specs.Facts.{row_at, after_all, facts}
use Rattle.plain_rules.proofs.rows.row_after_batch.Given as goal

abbrev pub invariant-loop-k : goal.invariant-loop-k
invariant-loop-k l = l.row ≡ row_at (after_all (facts l.earlier) (take l.k l.entries)).rows l.contact l.id
