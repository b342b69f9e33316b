use Rattle.sync_rules.proofs.NameLaws.{allowed_names_held}
use Rattle.sync_rules.proofs.growth.names.Goals as goal

pub returns : goal.returns
returns c = allowed_names_held
