use Rattle.entry_codec.proofs.Payloads.{batch_within}
use Rattle.entry_codec.proofs.laws.payloads_fit_frames.Goals as goal

pub returns : goal.returns
returns c = batch_within
