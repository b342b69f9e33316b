use Rattle.record_grammar.proofs.Behind.{spelled_read}
use Rattle.record_grammar.proofs.laws.spelled_records_read_back.Goals as goal

pub returns : goal.returns
returns c = spelled_read
