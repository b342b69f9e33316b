use Rattle.entry_codec.proofs.Writable.{batch_has}
use Rattle.entry_codec.proofs.laws.allowed_may_be_written.Goals as goal

pub returns : goal.returns
returns c = batch_has
