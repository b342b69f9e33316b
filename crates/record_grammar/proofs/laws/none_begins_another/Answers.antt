use Rattle.record_grammar.proofs.Complete.{none_begins}
use Rattle.record_grammar.proofs.laws.none_begins_another.Goals as goal

pub returns : goal.returns
returns c = none_begins
