-- What is left gives what the whole gives.
use Rattle.std.proofs.Common.{◌≡◌, drop}
use Rattle.sync_rules.specs.Scans.{last_level}
use Rattle.sync_rules.proofs.lookups.level_after.Given as goal

abbrev pub invariant-loop-entry : goal.invariant-loop-entry
invariant-loop-entry l = last_level l.contact l.group l.last (drop l.entry-index l.entries) ≡ last_level l.contact l.group l.fn.start l.entries
