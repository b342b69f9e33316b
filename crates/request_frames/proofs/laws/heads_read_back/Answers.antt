use Rattle.request_frames.proofs.Spelled.{head_back}
use Rattle.request_frames.proofs.laws.heads_read_back.Goals as goal

pub returns : goal.returns
returns c = head_back
