use Rattle.sync_rules.proofs.Outputs.{sends_the_open}
use Rattle.sync_rules.proofs.laws.output.Goals as goal

pub returns : goal.returns
returns c = sends_the_open
