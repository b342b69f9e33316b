use Rattle.entry_codec.proofs.LawProofs.{not_longer}
use Rattle.entry_codec.proofs.laws.short_is_not_longer.Goals as goal

pub returns : goal.returns
returns c = not_longer
