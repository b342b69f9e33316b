use Rattle.sync_course.proofs.FreeSuits.{moment_stands}
use Rattle.sync_course.proofs.laws.moments_stand.Goals as goal

pub returns : goal.returns
returns c = moment_stands c.streams_go_on.ensures c.records_join.ensures c.fronts_have_fronts.ensures
