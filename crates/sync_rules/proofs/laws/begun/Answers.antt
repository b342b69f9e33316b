use Rattle.sync_rules.proofs.BegunLaws.{entries_keep, entry_keeps, journals_count}
use Rattle.sync_rules.proofs.laws.begun.Goals as goal

pub returns-clause-entry : goal.returns-clause-entry
returns-clause-entry c = entry_keeps

pub returns-clause-entries : goal.returns-clause-entries
returns-clause-entries c = entries_keep

pub returns-clause-journals : goal.returns-clause-journals
returns-clause-journals c = journals_count
