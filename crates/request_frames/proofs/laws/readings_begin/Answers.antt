use Rattle.request_frames.proofs.Hearing.{begin}
use Rattle.request_frames.proofs.laws.readings_begin.Goals as goal

pub returns : goal.returns
returns c = begin
