use Rattle.std.proofs.Common.{take}
use Rattle.brief_account.specs.Brief.{row_entries}
use Rattle.journal_compaction.specs.Items.{AddsItems, is_peer}
use Rattle.journal_compaction.proofs.plan.add_rows.Given as goal

-- the rows of the messages so far
abbrev pub invariant-rows : goal.invariant-rows
invariant-rows l =
    AddsItems l.state.facts is_peer l.fn.items.items l.items.items
    (row_entries l.state.facts.rows l.contact (take l.n l.state.facts.held))
