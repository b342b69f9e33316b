-- One more entry makes of the lines what it makes of the wanted ids.
use Rattle.sync_rules.specs.Facts.{facts}
use Rattle.plain_rules.proofs.WantScans.{wants_go_on}
use Rattle.plain_rules.proofs.wants.want_batch.Goals as goal

pub loop-k-preserved : goal.loop-k-preserved
loop-k-preserved c =
    wants_go_on (facts c.args.earlier.now) c.args.entries.now c.loop-k.k c.index-entries-k.result c.loop-k.lines.items c.in_ok-lines.lines.items
    c.loop-k-test.true c.index-entries-k.is c.loop-k.invariant c.in_ok-lines.ensures
