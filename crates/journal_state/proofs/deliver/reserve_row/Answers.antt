use Rattle.std.proofs.Common.{sym, subst}
use Rattle.journal_state.specs.Delivery.{GrowsRoom}
use Rattle.journal_state.proofs.Grown.{either, reserved, same_table}
use Rattle.journal_state.proofs.deliver.reserve_row.Goals as goal

pub returns-clause-same : goal.returns-clause-same
returns-clause-same c =
    either c.reserve.result _ _ (GrowsRoom c.args.retry.now c.reserve.new.self) c.reserve.ensures.ok c.reserve.ensures.err
    (λ r. reserved c.args.retry.now c.reserve.new.self c.args.contact c.in_steps.result 0 r)
    (λ e. subst (GrowsRoom c.args.retry.now) (sym e) (same_table c.args.retry.now))
