use Rattle.std.proofs.Common.{ap, sym, ◌∙◌}
use Rattle.store_commands.specs.Plans.{planned}
use Rattle.store_commands.proofs.Passing.{refused_on}
use Rattle.store_commands.proofs.plans.plan_group.Goals as goal

pub returns-in_err-may_group : goal.returns-in_err-may_group
returns-in_err-may_group g c =
    ap (planned _) (sym c.in_err-may_group.ensures)
    ∙ sym (refused_on c.from_residual.result c.in_err-may_group.field-0.0
    c.from_residual.ensures.1)

pub returns : goal.returns
returns g c = ap (planned _) (sym c.in_ok-may_group.ensures)
