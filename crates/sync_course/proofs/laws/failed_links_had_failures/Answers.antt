use Rattle.sync_course.proofs.FailLaws.{path_fails}
use Rattle.sync_course.proofs.SendLaws.{failed_spared}
use Rattle.sync_course.proofs.laws.failed_links_had_failures.Goals as goal

pub returns-clause-stays : goal.returns-clause-stays
returns-clause-stays c = λ clients first f es to link path. (path_fails clients first f to es path).stays link

pub returns-clause-cause : goal.returns-clause-cause
returns-clause-cause c = λ clients first f es to link path. (path_fails clients first f to es path).cause link

pub returns-clause-spared : goal.returns-clause-spared
returns-clause-spared c = failed_spared c.streams_go_on.ensures c.records_join.ensures
