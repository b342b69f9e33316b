-- The ids that are left take out of the list what all take out of the first one.
use Rattle.std.proofs.Common.{◌≡◌, drop}
use Rattle.sync_rules.specs.Facts.{without_each}
use Rattle.journal_audit.proofs.wants.WantedIds.remove_all.Given as goal

abbrev pub invariant-loop-id : goal.invariant-loop-id
invariant-loop-id l = without_each (drop l.id-index l.ids) l.self ≡ without_each l.ids l.initial.self
