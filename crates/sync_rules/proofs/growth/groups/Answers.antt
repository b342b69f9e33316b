use Rattle.sync_rules.proofs.GroupLaws.{groups_leave_settled, legal_knows}
use Rattle.sync_rules.proofs.growth.groups.Goals as goal

pub returns-clause-known : goal.returns-clause-known
returns-clause-known c = legal_knows

pub returns-clause-settled : goal.returns-clause-settled
returns-clause-settled c = groups_leave_settled
