use Rattle.bramble_hash.specs.Blake2b.{words}
use Rattle.bramble_hash.proofs.block.words.Goals as goal

pub returns : goal.returns
unfolding words
returns c = cc
