use Rattle.sync_rules.proofs.Allowing.{allows_decides}
use Rattle.sync_rules.proofs.laws.allows_is_allowed.Goals as goal

pub returns : goal.returns
returns c = allows_decides c.message_ids_are_whole.ensures
