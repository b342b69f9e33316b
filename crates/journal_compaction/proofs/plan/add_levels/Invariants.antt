use Rattle.brief_account.specs.Brief.{level_entries}
use Rattle.journal_compaction.specs.Items.{AddsItems, is_alone}
use Rattle.journal_compaction.proofs.plan.add_levels.Given as goal

-- the levels for the contacts so far
abbrev pub invariant-contacts : goal.invariant-contacts
invariant-contacts l =
    AddsItems l.state.facts is_alone l.fn.items.items l.items.items
    (level_entries l.state.facts.levels l.state.facts.groups l.contact)
