-- What is left gives what the whole gives.
use Rattle.std.proofs.Common.{◌≡◌, drop}
use Rattle.sync_rules.specs.Scans.{first_message}
use Rattle.sync_rules.proofs.lookups.find_message.Given as goal

abbrev pub invariant-loop-entry : goal.invariant-loop-entry
invariant-loop-entry l = first_message l.id (drop l.entry-index l.entries) ≡ first_message l.id l.entries
