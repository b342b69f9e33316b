use Rattle.record_stream.proofs.Hearing.{joined}
use Rattle.record_stream.proofs.laws.readings_join.Goals as goal

pub returns : goal.returns
returns c = joined
