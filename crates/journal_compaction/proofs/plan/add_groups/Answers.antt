use Rattle.std.proofs.Common.{◌<◌, length, arith}
use Rattle.journal_compaction.proofs.Adding.{group_more}
use Rattle.journal_compaction.proofs.plan.add_groups.Goals as goal

pub groups-preserved : goal.groups-preserved
groups-preserved c =
    let f = c.args.state.now.facts in
    let few : c.groups.n < length f.groups =
    omega (arith, c.groups-test.true, c.groups-n-end.ensures) in
    group_more f c.args.items.now.items c.groups.items.items c.push.new.self.items c.groups.n few
    c.in_ok-push.ensures.items c.groups.invariant
