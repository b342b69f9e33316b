use Rattle.std.proofs.Common.{[]}
use Rattle.brief_account.specs.Brief.{peer_entries}
use Rattle.journal_compaction.specs.Items.{AddsItems, is_peer}
use Rattle.journal_compaction.proofs.plan.plan_peers.Given as goal

-- the rows and wanted ids of the contacts so far
abbrev pub invariant-contacts : goal.invariant-contacts
invariant-contacts l =
    AddsItems l.state.facts is_peer [] l.items.items (peer_entries l.state.facts l.contact)
