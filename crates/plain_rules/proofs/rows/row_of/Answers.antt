-- At the beginning no pair has a row; one more batch makes of the row what its entries make of it.
use Rattle.std.proofs.Common.{List, take, sym, ◌∙◌, ap}
use Rattle.sync_rules.specs.declared.entries.Entry.{Entry}
use Rattle.sync_rules.specs.Facts.{Facts, facts, after_all, row_at}
use Rattle.plain_rules.proofs.RowScans.{no_row_at}
use Rattle.plain_rules.proofs.Loops.{batches_more}
use Rattle.plain_rules.proofs.rows.row_of.Goals as goal

pub loop-i-init : goal.loop-i-init
loop-i-init c = sym (no_row_at c.args.contact c.args.id.now)

pub loop-i-preserved : goal.loop-i-preserved
loop-i-preserved c =
    c.row_after_batch-row.ensures
    ∙ (ap (λ (es : List Entry). row_at (after_all (facts (take c.loop-i.i c.args.j.now)) es).rows c.args.contact c.args.id.now) c.entries.ensures.value
    ∙ sym (ap (λ (g : Facts). row_at g.rows c.args.contact c.args.id.now) (batches_more c.args.j.now c.loop-i.i c.index-j-i.result c.loop-i-test.true c.index-j-i.is)))
