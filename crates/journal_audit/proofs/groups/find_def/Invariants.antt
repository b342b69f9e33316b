-- What is left finds what the whole finds.
use Rattle.std.proofs.Common.{◌≡◌, drop}
use Rattle.sync_rules.specs.Facts.{group_at}
use Rattle.journal_audit.proofs.groups.find_def.Given as goal

abbrev pub invariant-loop-group : goal.invariant-loop-group
invariant-loop-group l = group_at (drop l.group-index l.groups) l.id ≡ group_at l.groups l.id
