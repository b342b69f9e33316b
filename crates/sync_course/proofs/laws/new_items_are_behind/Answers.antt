use Rattle.sync_course.proofs.RunLaws.{new_items_follow}
use Rattle.sync_course.proofs.laws.new_items_are_behind.Goals as goal

pub returns : goal.returns
returns c = new_items_follow c.streams_go_on.ensures
