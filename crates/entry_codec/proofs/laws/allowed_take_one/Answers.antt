use Rattle.entry_codec.proofs.TakeCounts.{one_take}
use Rattle.entry_codec.proofs.laws.allowed_take_one.Goals as goal

pub returns : goal.returns
returns c = one_take
