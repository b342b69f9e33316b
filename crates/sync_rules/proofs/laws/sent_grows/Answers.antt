use Rattle.sync_rules.proofs.Outputs.{sent_only_grows}
use Rattle.sync_rules.proofs.laws.sent_grows.Goals as goal

pub returns : goal.returns
returns c = sent_only_grows
