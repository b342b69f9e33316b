use Rattle.sync_rules.proofs.Continuing.{continues_after, continues_all, continues_batches, continues_journals, continues_then}
use Rattle.sync_rules.proofs.growth.continues.Goals as goal

pub returns-clause-one : goal.returns-clause-one
returns-clause-one c = continues_after

pub returns-clause-entries : goal.returns-clause-entries
returns-clause-entries c = continues_all

pub returns-clause-batches : goal.returns-clause-batches
returns-clause-batches c = continues_batches

pub returns-clause-journals : goal.returns-clause-journals
returns-clause-journals c = continues_journals

pub returns-clause-joined : goal.returns-clause-joined
returns-clause-joined c = continues_then
