use Rattle.record_grammar.proofs.Complete.{spelled_found}
use Rattle.record_grammar.proofs.laws.spellings_read_back.Goals as goal

pub returns : goal.returns
returns c = spelled_found
