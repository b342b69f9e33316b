use Rattle.bramble_hash.specs.Blake2b.{mix_at}
use Rattle.bramble_hash.proofs.block.mix_at.Goals as goal

pub returns : goal.returns
unfolding mix_at
returns c = cc (c.mixed-w.ensures)
