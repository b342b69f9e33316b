use Rattle.sync_rules.specs.Facts.{entries_of}
use Rattle.sync_rules.proofs.PeerFacts.{tries_law, cut_law}
use Rattle.sync_rules.proofs.laws.tries.Goals as goal

pub returns-clause-count : goal.returns-clause-count
returns-clause-count c = λ j. tries_law (entries_of j)

pub returns-clause-cut : goal.returns-clause-cut
returns-clause-cut c = λ j. cut_law (entries_of j)
