use Rattle.record_grammar.proofs.Complete.{found_stays}
use Rattle.record_grammar.proofs.laws.decisions_stay.Goals as goal

pub returns : goal.returns
returns c = found_stays
