use Rattle.record_stream.proofs.Hearing.{whole}
use Rattle.record_stream.proofs.laws.readings_are_whole.Goals as goal

pub returns : goal.returns
returns c = whole
