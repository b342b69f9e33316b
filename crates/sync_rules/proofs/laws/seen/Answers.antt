use Rattle.sync_rules.specs.Facts.{entries_of}
use Rattle.sync_rules.proofs.PeerFacts.{seen_law}
use Rattle.sync_rules.proofs.laws.seen.Goals as goal

pub returns : goal.returns
returns c = λ j. seen_law (entries_of j)
