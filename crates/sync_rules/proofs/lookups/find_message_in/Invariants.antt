-- What is left gives what the whole gives.
use Rattle.std.proofs.Common.{◌≡◌, drop}
use Rattle.sync_rules.specs.Scans.{first_message_in}
use Rattle.sync_rules.proofs.lookups.find_message_in.Given as goal

abbrev pub invariant-loop-batch : goal.invariant-loop-batch
invariant-loop-batch l = first_message_in l.id (drop l.batch-index l.j) ≡ first_message_in l.id l.j
