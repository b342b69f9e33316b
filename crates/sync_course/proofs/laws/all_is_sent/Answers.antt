use Rattle.sync_course.proofs.SendLaws.{all_sent}
use Rattle.sync_course.proofs.laws.all_is_sent.Goals as goal

pub returns : goal.returns
returns c = all_sent c.streams_go_on.ensures c.records_join.ensures
