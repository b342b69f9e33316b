use Rattle.request_frames.proofs.Spelled.{answers_back}
use Rattle.request_frames.proofs.laws.answers_read_back.Goals as goal

pub returns : goal.returns
returns c = answers_back
