use Rattle.std.proofs.Common.{take}
use Rattle.brief_account.specs.Brief.{group_entries}
use Rattle.journal_compaction.specs.Items.{AddsItems, is_alone}
use Rattle.journal_compaction.proofs.plan.add_groups.Given as goal

-- the groups so far
abbrev pub invariant-groups : goal.invariant-groups
invariant-groups l =
    AddsItems l.state.facts is_alone l.fn.items.items l.items.items
    (group_entries (take l.n l.state.facts.groups))
