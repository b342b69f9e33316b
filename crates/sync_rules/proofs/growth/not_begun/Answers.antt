use Rattle.sync_rules.proofs.OutputLaws.{not_begun_sent}
use Rattle.sync_rules.proofs.growth.not_begun.Goals as goal

pub returns : goal.returns
returns c = not_begun_sent
