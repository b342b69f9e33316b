use Rattle.sync_rules.proofs.StepKinds.{next_is_step, same_next, settled_stays}
use Rattle.sync_rules.proofs.growth.steps.Goals as goal

pub returns-clause-kinds : goal.returns-clause-kinds
returns-clause-kinds c = next_is_step

pub returns-clause-same : goal.returns-clause-same
returns-clause-same c = same_next

pub returns-clause-settled : goal.returns-clause-settled
returns-clause-settled c = settled_stays
