use Rattle.sync_course.proofs.FreeSuits.{run_suits}
use Rattle.sync_course.proofs.laws.batches_suit_as_planned.Goals as goal

pub returns : goal.returns
returns c = run_suits c.streams_go_on.ensures c.records_join.ensures c.fronts_have_fronts.ensures
