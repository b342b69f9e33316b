use Rattle.sync_course.specs.LinkTurns.{LinkStep}
use Rattle.sync_course.proofs.PathLaws.{path_parts, path_push, path_then}
use Rattle.sync_course.specs.Turns.{RunStep}
use Rattle.sync_course.proofs.laws.paths_join.Goals as goal

pub returns-clause-links : goal.returns-clause-links
returns-clause-links c = λ clients n session. path_then (LinkStep clients n session)

pub returns-clause-runs : goal.returns-clause-runs
returns-clause-runs c = λ clients terms. path_then (RunStep clients terms)

pub returns-clause-push : goal.returns-clause-push
returns-clause-push c = λ clients terms. path_push (RunStep clients terms)

pub returns-clause-parts : goal.returns-clause-parts
returns-clause-parts c = λ clients terms. path_parts (RunStep clients terms)
