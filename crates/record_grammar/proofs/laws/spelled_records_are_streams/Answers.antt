use Rattle.record_grammar.proofs.Behind.{spelled_streams}
use Rattle.record_grammar.proofs.laws.spelled_records_are_streams.Goals as goal

pub returns : goal.returns
returns c = spelled_streams
