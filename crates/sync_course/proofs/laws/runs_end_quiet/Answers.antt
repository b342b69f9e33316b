use Rattle.sync_course.proofs.QuietLaws.{course_ends_quiet}
use Rattle.sync_course.proofs.laws.runs_end_quiet.Goals as goal

pub returns : goal.returns
returns c = course_ends_quiet c.streams_go_on.ensures c.records_join.ensures
