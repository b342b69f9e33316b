use Rattle.record_stream.proofs.Hearing.{read_wider}
use Rattle.record_stream.proofs.laws.readings_widen.Goals as goal

pub returns : goal.returns
returns c = read_wider
