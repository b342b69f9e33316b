use Rattle.sync_rules.specs.Facts.{entries_of}
use Rattle.sync_rules.proofs.PeerFacts.{owed_law}
use Rattle.sync_rules.proofs.laws.owed.Goals as goal

pub returns : goal.returns
returns c = λ j. owed_law (entries_of j)
