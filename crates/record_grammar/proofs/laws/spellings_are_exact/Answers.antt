use Rattle.record_grammar.proofs.Complete.{one_record}
use Rattle.record_grammar.proofs.laws.spellings_are_exact.Goals as goal

pub returns : goal.returns
returns c = one_record
