use Rattle.record_stream.proofs.Hearing.{read_then}
use Rattle.record_stream.proofs.laws.readings_follow.Goals as goal

pub returns : goal.returns
returns c = read_then
