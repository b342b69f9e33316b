use Rattle.std.proofs.Common.{take}
use Rattle.sync_rules.specs.Facts.{wanted_from}
use Rattle.brief_account.specs.Brief.{want_entries}
use Rattle.journal_compaction.specs.Items.{AddsItems, is_peer}
use Rattle.journal_compaction.proofs.plan.add_wants.Given as goal

-- the wanted ids so far
abbrev pub invariant-wants : goal.invariant-wants
invariant-wants l =
    AddsItems l.state.facts is_peer l.fn.items.items l.items.items
    (want_entries l.contact (take l.n (wanted_from l.state.facts.wanted l.contact)))
