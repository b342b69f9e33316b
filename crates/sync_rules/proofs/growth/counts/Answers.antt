use Rattle.sync_rules.proofs.EndCounts.{legal_counts}
use Rattle.sync_rules.proofs.growth.counts.Goals as goal

pub returns : goal.returns
returns c = legal_counts
