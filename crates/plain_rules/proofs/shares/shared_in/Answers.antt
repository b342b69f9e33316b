-- All ids were pushed.
use Rattle.std.proofs.Common.{refl, ◌∙◌}
use Rattle.sync_rules.specs.Facts.{facts}
use Rattle.plain_rules.specs.Shares.{shared_among}
use Rattle.plain_rules.proofs.ShareScans.{shared_found}
use Rattle.plain_rules.proofs.Loops.{pushed_all}
use Rattle.plain_rules.proofs.shares.shared_in.Goals as goal

pub returns : goal.returns
returns g c =
    pushed_all (shared_among (g.C.Clients.meaning c.args.clients.now) (facts c.args.j.now)) c.args.j.now c.loop-batch.batch-index c.loop-batch.ids.items _
    c.loop-batch-test.false refl c.loop-batch.invariant
    ∙ shared_found (g.C.Clients.meaning c.args.clients.now) c.args.j.now
