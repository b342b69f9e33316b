-- What is left gives what the whole gives.
use Rattle.std.proofs.Common.{◌≡◌, drop}
use Rattle.sync_rules.specs.Scans.{any_entry}
use Rattle.sync_rules.specs.EntryTests.{delivers}
use Rattle.sync_rules.proofs.lookups.any_delivered.Given as goal

abbrev pub invariant-loop-batch : goal.invariant-loop-batch
invariant-loop-batch l = any_entry (delivers l.id) (drop l.batch-index l.j) ≡ any_entry (delivers l.id) l.j
