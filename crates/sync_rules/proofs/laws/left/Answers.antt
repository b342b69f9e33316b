use Rattle.sync_rules.proofs.LeftLaws.{left_few, step_lowers, steps_lower}
use Rattle.sync_rules.proofs.laws.left.Goals as goal

pub returns-clause-step : goal.returns-clause-step
returns-clause-step c = step_lowers

pub returns-clause-steps : goal.returns-clause-steps
returns-clause-steps c = steps_lower

pub returns-clause-bounded : goal.returns-clause-bounded
returns-clause-bounded c = left_few
