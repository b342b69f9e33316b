use Rattle.record_grammar.proofs.Behind.{goes_on_behind}
use Rattle.record_grammar.proofs.laws.streams_go_on.Goals as goal

pub returns : goal.returns
returns c = goes_on_behind
