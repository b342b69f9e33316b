use Rattle.sync_rules.proofs.RoundLaws.{disjoint}
use Rattle.sync_rules.proofs.Settling.{settled_law, rounds_grow}
use Rattle.sync_rules.proofs.laws.settled.Goals as goal

pub returns-clause-decided : goal.returns-clause-decided
returns-clause-decided c = settled_law

pub returns-clause-apart : goal.returns-clause-apart
returns-clause-apart c = disjoint

pub returns-clause-grow : goal.returns-clause-grow
returns-clause-grow c = rounds_grow
