use Rattle.sync_course.proofs.FreeSound.{run_counted}
use Rattle.sync_course.proofs.laws.takes_are_fronts.Goals as goal

pub returns : goal.returns
returns c = run_counted c.streams_go_on.ensures c.records_join.ensures
