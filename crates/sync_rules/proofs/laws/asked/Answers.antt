use Rattle.sync_rules.specs.Facts.{entries_of}
use Rattle.sync_rules.proofs.PeerFacts.{asked_law}
use Rattle.sync_rules.proofs.laws.asked.Goals as goal

pub returns : goal.returns
returns c = λ j. asked_law (entries_of j)
