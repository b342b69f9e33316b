use Rattle.request_frames.proofs.Hearing.{whole}
use Rattle.request_frames.proofs.laws.readings_are_whole.Goals as goal

pub returns : goal.returns
returns c = whole
