use Rattle.sync_rules.proofs.DueLaws.{due_allowed, due_names_distinct}
use Rattle.sync_rules.proofs.growth.due_is_allowed.Goals as goal

pub returns-clause-allowed : goal.returns-clause-allowed
returns-clause-allowed c = due_allowed

pub returns-clause-names : goal.returns-clause-names
returns-clause-names c = λ clients f o now what h w d. due_names_distinct f h w clients o now what d
