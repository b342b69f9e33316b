use Rattle.sync_rules.proofs.Settling.{prefix_legal}
use Rattle.sync_rules.proofs.laws.prefix.Goals as goal

pub returns : goal.returns
returns c = prefix_legal
