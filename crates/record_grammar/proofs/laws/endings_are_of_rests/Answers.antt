use Rattle.record_grammar.proofs.Behind.{ends_with}
use Rattle.record_grammar.proofs.laws.endings_are_of_rests.Goals as goal

pub returns : goal.returns
returns c = ends_with
