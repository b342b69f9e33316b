-- What is left gives what the whole gives.
use Rattle.std.proofs.Common.{◌≡◌, drop}
use Rattle.sync_rules.specs.Scans.{last_level_in}
use Rattle.sync_rules.specs.declared.entries.Level.TheVariants as level
use Rattle.sync_rules.proofs.lookups.last_level_over.Given as goal

abbrev pub invariant-loop-batch : goal.invariant-loop-batch
invariant-loop-batch l = last_level_in l.contact l.group l.last (drop l.batch-index l.j) ≡ last_level_in l.contact l.group level.Invisible l.j
