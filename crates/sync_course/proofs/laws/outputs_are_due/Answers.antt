use Rattle.sync_course.proofs.QuietLaws.{out_is_due}
use Rattle.sync_course.proofs.laws.outputs_are_due.Goals as goal

pub returns : goal.returns
returns c = out_is_due
