use Rattle.request_frames.proofs.Hearing.{goes_on}
use Rattle.request_frames.proofs.laws.readings_go_on.Goals as goal

pub returns : goal.returns
returns c = goes_on
