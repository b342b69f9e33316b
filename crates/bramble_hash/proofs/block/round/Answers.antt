use Rattle.bramble_hash.specs.Blake2b.{round}
use Rattle.bramble_hash.proofs.block.round.Goals as goal

pub returns : goal.returns
unfolding round
returns c = cc
