use Rattle.entry_codec.proofs.Counts.{one_more}
use Rattle.entry_codec.proofs.laws.allowed_add_one.Goals as goal

pub returns : goal.returns
returns c = one_more
