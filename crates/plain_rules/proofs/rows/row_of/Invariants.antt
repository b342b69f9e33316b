-- The row is that of the batches so far.
use Rattle.std.proofs.Common.{◌≡◌, take}
use Rattle.sync_rules.specs.Facts.{row_at, facts}
use Rattle.plain_rules.proofs.rows.row_of.Given as goal

abbrev pub invariant-loop-i : goal.invariant-loop-i
invariant-loop-i l = l.row ≡ row_at (facts (take l.i l.j)).rows l.contact l.id
