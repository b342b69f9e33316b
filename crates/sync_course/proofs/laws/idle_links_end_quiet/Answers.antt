use Rattle.sync_course.proofs.IdleLaws.{ends_quiet, ends_unfinished}
use Rattle.sync_course.proofs.laws.idle_links_end_quiet.Goals as goal

pub returns-clause-quiet : goal.returns-clause-quiet
returns-clause-quiet c = ends_quiet

pub returns-clause-unfinished : goal.returns-clause-unfinished
returns-clause-unfinished c = ends_unfinished
