use Rattle.entry_codec.proofs.LawProofs.{none_begins}
use Rattle.entry_codec.proofs.laws.none_begins_another.Goals as goal

pub returns : goal.returns
returns c = none_begins
