use Rattle.sync_rules.proofs.StepKinds.{settling_only, all_settling_only, settles_only}
use Rattle.sync_rules.proofs.growth.settling_leaves.Goals as goal

pub returns-clause-entries : goal.returns-clause-entries
returns-clause-entries c = settling_only

pub returns-clause-batches : goal.returns-clause-batches
returns-clause-batches c = all_settling_only

pub returns-clause-journals : goal.returns-clause-journals
returns-clause-journals c = settles_only
