-- What is left gives what the whole gives.
use Rattle.std.proofs.Common.{◌≡◌, drop}
use Rattle.sync_rules.specs.Facts.{facts}
use Rattle.plain_rules.specs.KnownLevels.{all_entries, knows_level}
use Rattle.plain_rules.proofs.levels.are_all_known.Given as goal

abbrev pub invariant-loop-batch : goal.invariant-loop-batch
invariant-loop-batch l = all_entries (knows_level (facts l.j)) (drop l.batch-index l.j) ≡ all_entries (knows_level (facts l.j)) l.j
