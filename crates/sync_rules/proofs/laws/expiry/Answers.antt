use Rattle.sync_rules.specs.Facts.{entries_of}
use Rattle.sync_rules.proofs.PeerFacts.{expiry_law, no_expiry_law}
use Rattle.sync_rules.proofs.laws.expiry.Goals as goal

pub returns-clause-none : goal.returns-clause-none
returns-clause-none c = λ j. no_expiry_law (entries_of j)

pub returns-clause-last : goal.returns-clause-last
returns-clause-last c = λ j. expiry_law (entries_of j)
