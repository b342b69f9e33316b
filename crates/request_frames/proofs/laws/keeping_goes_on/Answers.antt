use Rattle.request_frames.proofs.Hearing.{keeping}
use Rattle.request_frames.proofs.laws.keeping_goes_on.Goals as goal

pub returns : goal.returns
returns c = keeping
