use Rattle.brief_account.specs.Brief.{contact_entries}
use Rattle.journal_compaction.specs.Items.{AddsItems, is_alone}
use Rattle.journal_compaction.proofs.plan.add_contacts.Given as goal

-- the contacts so far
abbrev pub invariant-contacts : goal.invariant-contacts
invariant-contacts l =
    AddsItems l.state.facts is_alone l.fn.items.items l.items.items (contact_entries l.contact)
