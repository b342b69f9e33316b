use Rattle.std.proofs.Common.{◌-◌, length, sym, subst}
use Rattle.journal_state.specs.Delivery.{GrowsRoom}
use Rattle.journal_state.proofs.Grown.{grown_release, same_table}
use Rattle.journal_state.proofs.deliver.reserve_release.Goals as goal

pub returns-in_err-reserve_groups-clause-same : goal.returns-in_err-reserve_groups-clause-same
returns-in_err-reserve_groups-clause-same c = subst (GrowsRoom c.args.retry.now) (sym c.in_err-reserve_groups.ensures.err) (same_table c.args.retry.now)

pub returns-clause-same : goal.returns-clause-same
returns-clause-same c =
    subst (GrowsRoom c.args.retry.now) (sym c.in_ok-reserve_groups.ensures.ok)
    (grown_release c.args.retry.now (c.in_steps.result - length c.args.retry.now.groups))
