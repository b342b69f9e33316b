use Rattle.record_grammar.proofs.Parts.{made_of}
use Rattle.record_grammar.proofs.laws.streams_are_made_of_items.Goals as goal

pub returns : goal.returns
returns c = made_of
