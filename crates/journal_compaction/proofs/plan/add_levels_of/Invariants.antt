use Rattle.std.proofs.Common.{take}
use Rattle.brief_account.specs.Brief.{levels_of}
use Rattle.journal_compaction.specs.Items.{AddsItems, is_alone}
use Rattle.journal_compaction.proofs.plan.add_levels_of.Given as goal

-- the levels of the groups so far
abbrev pub invariant-groups : goal.invariant-groups
invariant-groups l =
    AddsItems l.state.facts is_alone l.fn.items.items l.items.items
    (levels_of l.state.facts.levels l.contact (take l.n l.state.facts.groups))
