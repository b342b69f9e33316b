use Rattle.sync_rules.proofs.StepKinds.{takes_one}
use Rattle.sync_rules.proofs.growth.take_counts.Goals as goal

pub returns : goal.returns
returns c = takes_one
