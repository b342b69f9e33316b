use Rattle.sync_rules.proofs.MeetingLaws.{allowed_meets, each_meets}
use Rattle.sync_rules.proofs.growth.meets.Goals as goal

pub returns-clause-batch : goal.returns-clause-batch
returns-clause-batch c = allowed_meets

pub returns-clause-journal : goal.returns-clause-journal
returns-clause-journal c = each_meets
