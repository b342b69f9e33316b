use Rattle.sync_rules.proofs.RoundLaws.{good_le, bad_le}
use Rattle.sync_rules.proofs.Settling.{rounds_grow}
use Rattle.sync_rules.proofs.growth.rounds.Goals as goal

pub returns-clause-good : goal.returns-clause-good
returns-clause-good c = λ g k l id le h. good_le g l k id le h

pub returns-clause-bad : goal.returns-clause-bad
returns-clause-bad c = λ g k l id le h. bad_le g l k id le h

pub returns-clause-journals : goal.returns-clause-journals
returns-clause-journals c = rounds_grow
