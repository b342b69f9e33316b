use Rattle.sync_rules.proofs.Flags.{delivers_in_order}
use Rattle.sync_rules.proofs.laws.order.Goals as goal

pub returns : goal.returns
returns c = delivers_in_order
