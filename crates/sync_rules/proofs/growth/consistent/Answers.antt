use Rattle.sync_rules.proofs.ConsistencyLaws.{legal_consistent}
use Rattle.sync_rules.proofs.growth.consistent.Goals as goal

pub returns : goal.returns
returns c = legal_consistent
