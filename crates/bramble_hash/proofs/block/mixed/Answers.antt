use Rattle.bramble_hash.specs.Blake2b.{mixed}
use Rattle.bramble_hash.proofs.block.mixed.Goals as goal

pub returns : goal.returns
unfolding mixed
returns c = cc
