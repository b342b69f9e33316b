use Rattle.entry_codec.proofs.LawProofs.{short_spelling}
use Rattle.entry_codec.proofs.laws.spellings_are_short.Goals as goal

pub returns : goal.returns
returns c = short_spelling
