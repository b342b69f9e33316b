-- What is left gives what the whole gives.
use Rattle.std.proofs.Common.{◌≡◌, drop}
use Rattle.sync_rules.specs.Scans.{first_def}
use Rattle.sync_rules.proofs.lookups.find_def.Given as goal

abbrev pub invariant-loop-entry : goal.invariant-loop-entry
invariant-loop-entry l = first_def l.id (drop l.entry-index l.entries) ≡ first_def l.id l.entries
