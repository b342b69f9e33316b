use Rattle.record_grammar.proofs.Behind.{records_joined}
use Rattle.record_grammar.proofs.laws.records_join.Goals as goal

pub returns : goal.returns
returns c = records_joined
