use Rattle.std.proofs.Common.{[], length, take}
use Rattle.sync_rules.specs.Facts.{Facts}
use Rattle.journal_state.specs.Telling.{TellsWithin, told_entries}
use Rattle.journal_compaction.specs.Items.{AddsItems, is_told}
use Rattle.journal_compaction.proofs.plan.plan_told.Given as goal

-- what is told so far
abbrev pub invariant-told : goal.invariant-told
invariant-told l =
    (f : Facts) → TellsWithin (length f.held) l.told
    → AddsItems f is_told [] l.items.items (told_entries f.held (take l.one-index l.told))
