use Rattle.record_grammar.proofs.Behind.{stops}
use Rattle.record_grammar.proofs.laws.rests_give_nothing.Goals as goal

pub returns : goal.returns
returns c = stops
