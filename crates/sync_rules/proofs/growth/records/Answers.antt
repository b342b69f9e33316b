use Rattle.sync_rules.proofs.RecordLaws.{held_by_records, seen_by_records}
use Rattle.sync_rules.proofs.growth.records.Goals as goal

pub returns-clause-seen : goal.returns-clause-seen
returns-clause-seen c = seen_by_records

pub returns-clause-held : goal.returns-clause-held
returns-clause-held c = held_by_records
