use Rattle.sync_rules.specs.Facts.{entries_of}
use Rattle.sync_rules.proofs.PeerFacts.{wanted_law}
use Rattle.sync_rules.proofs.laws.wanted.Goals as goal

pub returns : goal.returns
returns c = λ j. wanted_law (entries_of j)
