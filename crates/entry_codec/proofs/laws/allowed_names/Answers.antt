use Rattle.entry_codec.proofs.AllowedIds.{names_held}
use Rattle.entry_codec.proofs.laws.allowed_names.Goals as goal

pub returns : goal.returns
returns c = names_held
