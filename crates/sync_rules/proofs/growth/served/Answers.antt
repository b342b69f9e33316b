use Rattle.sync_rules.proofs.ServedLaws.{delivers_in_order}
use Rattle.sync_rules.proofs.growth.served.Goals as goal

pub returns : goal.returns
returns c = delivers_in_order
