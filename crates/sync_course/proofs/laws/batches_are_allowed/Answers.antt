use Rattle.sync_course.proofs.FreeSound.{run_moves}
use Rattle.sync_course.proofs.laws.batches_are_allowed.Goals as goal

pub returns-clause-allowed : goal.returns-clause-allowed
returns-clause-allowed c = λ clients terms p q es path. (run_moves clients terms p q es path).goes_on

pub returns-clause-facts : goal.returns-clause-facts
returns-clause-facts c = λ clients terms p q es path. (run_moves clients terms p q es path).facts
