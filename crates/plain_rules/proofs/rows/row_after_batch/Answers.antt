-- One more entry makes of the row what the law of one more entry says.
use Rattle.sync_rules.specs.Facts.{facts}
use Rattle.plain_rules.proofs.RowScans.{row_goes_on}
use Rattle.plain_rules.proofs.rows.row_after_batch.Goals as goal

pub loop-k-preserved : goal.loop-k-preserved
loop-k-preserved c =
    row_goes_on (facts c.args.earlier.now) c.args.entries.now c.loop-k.k c.index-entries-k.result c.args.contact c.args.id.now
    c.loop-k.row c.row_after_one-row.result c.loop-k-test.true c.index-entries-k.is c.loop-k.invariant c.row_after_one-row.ensures
