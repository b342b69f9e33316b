use Rattle.sync_rules.proofs.Flags.{brings_once, judges_once, ends_once}
use Rattle.sync_rules.proofs.laws.once.Goals as goal

pub returns-clause-brings : goal.returns-clause-brings
returns-clause-brings c = brings_once

pub returns-clause-judges : goal.returns-clause-judges
returns-clause-judges c = judges_once

pub returns-clause-ends : goal.returns-clause-ends
returns-clause-ends c = ends_once
