use Rattle.record_grammar.proofs.Behind.{fronts}
use Rattle.record_grammar.proofs.laws.fronts_have_fronts.Goals as goal

pub returns : goal.returns
returns c = fronts
