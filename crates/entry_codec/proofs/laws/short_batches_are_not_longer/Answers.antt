use Rattle.entry_codec.proofs.LawProofs.{batch_not_longer}
use Rattle.entry_codec.proofs.laws.short_batches_are_not_longer.Goals as goal

pub returns : goal.returns
returns c = batch_not_longer
