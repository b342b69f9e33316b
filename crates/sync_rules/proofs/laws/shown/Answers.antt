use Rattle.sync_rules.proofs.Levels.{legal_knows_shown}
use Rattle.sync_rules.proofs.laws.shown.Goals as goal

pub returns : goal.returns
returns c = legal_knows_shown
