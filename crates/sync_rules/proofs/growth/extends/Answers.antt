use Rattle.sync_rules.proofs.WorkLaws.{facts-push}
use Rattle.sync_rules.proofs.Kept.{after_batches-is}
use Rattle.sync_rules.proofs.Continuing.{extends_itself, extends_then, facts-append}
use Rattle.sync_rules.proofs.growth.extends.Goals as goal

pub returns-clause-itself : goal.returns-clause-itself
returns-clause-itself c = extends_itself

pub returns-clause-joined : goal.returns-clause-joined
returns-clause-joined c = extends_then

pub returns-clause-push : goal.returns-clause-push
returns-clause-push c = facts-push

pub returns-clause-append : goal.returns-clause-append
returns-clause-append c = facts-append

pub returns-clause-by_entries : goal.returns-clause-by_entries
returns-clause-by_entries c = after_batches-is
