use Rattle.std.proofs.Common.{ap, sym, ◌∙◌}
use Rattle.store_commands.specs.Plans.{planned}
use Rattle.store_commands.proofs.Passing.{refused_on}
use Rattle.store_commands.proofs.plans.plan_contact.Goals as goal

pub returns-in_err-n : goal.returns-in_err-n
returns-in_err-n c =
    ap (planned _) (sym c.in_err-n.ensures)
    ∙ sym (refused_on c.from_residual.result c.in_err-n.field-0.0 c.from_residual.ensures.1)

pub returns : goal.returns
returns c = ap (planned _) (sym c.in_ok-n.ensures)
