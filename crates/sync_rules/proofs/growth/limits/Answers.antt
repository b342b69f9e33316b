use Rattle.sync_rules.proofs.DueLaws.{limits_all, legal_limits, records_within, sent_within}
use Rattle.sync_rules.proofs.growth.limits.Goals as goal

pub returns-clause-entries : goal.returns-clause-entries
returns-clause-entries c = limits_all

pub returns-clause-journal : goal.returns-clause-journal
returns-clause-journal c = legal_limits

pub returns-clause-records : goal.returns-clause-records
returns-clause-records c = λ f contact what h l n. records_within c.message_ids_are_whole.ensures f h l contact what n

pub returns-clause-sends : goal.returns-clause-sends
returns-clause-sends c = sent_within c.message_ids_are_whole.ensures
