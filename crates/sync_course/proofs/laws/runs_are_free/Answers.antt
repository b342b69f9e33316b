use Rattle.sync_course.proofs.FreeLaws.{run_acts_are_free, run_is_free}
use Rattle.sync_course.proofs.laws.runs_are_free.Goals as goal

pub returns-clause-events : goal.returns-clause-events
returns-clause-events c = run_is_free

pub returns-clause-acts : goal.returns-clause-acts
returns-clause-acts c = run_acts_are_free
