use Rattle.std.proofs.Common.{rules}
use Rattle.bramble_hash.specs.Blake2b.{all_but_last, cut, key_block, marked}
use Rattle.bramble_hash.proofs.hasher.Blake2b.new.Goals as goal

pub returns-clause-holds : goal.returns-clause-holds
unfolding all_but_last cut key_block marked
returns-clause-holds g c = record { folded = search rules; kept = search rules; count = search rules }
