use Rattle.record_stream.proofs.Steps.{waits_at_start}
use Rattle.record_stream.proofs.reader.Reader.new.Goals as goal

pub returns-clause-waits : goal.returns-clause-waits
returns-clause-waits c = waits_at_start
