use Rattle.std.proofs.Common.{◌<◌, length, arith}
use Rattle.sync_rules.specs.Facts.{wanted_from}
use Rattle.journal_compaction.proofs.Adding.{want_more}
use Rattle.journal_compaction.proofs.plan.add_wants.Goals as goal

pub wants-preserved : goal.wants-preserved
wants-preserved c =
    let f = c.args.state.now.facts in
    let few : c.wants.n < length (wanted_from f.wanted c.args.contact) =
    omega (arith, c.wants-test.true, c.wanted_count-n-end.ensures) in
    want_more f c.args.contact c.args.items.now.items c.wants.items.items c.push.new.self.items
    c.wants.n few
    c.in_ok-push.ensures.items c.wants.invariant
