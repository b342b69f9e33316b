use Rattle.std.proofs.Common.{◌≡◌, ℕ, ◌+◌, ◌-◌, ◌<◌, ◌≤◌, ◌^◌, ◌++◌, Bool, List, [], Option, None, Some, IfOk, OnErr, Result, length, map, get_or, set, replicate, vec_len, take, sym, ap, subst, ◌∙◌, arith, rules, length-append}
use Rattle.std.proofs.lemmas.List.{length-set, length-replicate, take_all}
use Rattle.retry_table.specs.declared.contact_rows.ContactRows.{ContactRows}
use Rattle.retry_table.specs.declared.contact_rows.Released.{Released}
use Rattle.retry_table.specs.declared.contact_rows.Turn.{Turn}
use Rattle.retry_table.specs.Contacts.{AreContacts, IsSaidFor}
use Rattle.retry_table.specs.Due.{message_in, offers_in, owed_in}
use Rattle.retry_table.specs.Queues.{is_sought}
use Rattle.retry_table.specs.Table.{KeptRow, RowsTable, kept_in, no_kept, rows_at, with_numbers, with_ready, with_rows}
use Rattle.retry_table.specs.Turns.{as_said, group_of, said_at, shown, turned, turns_in, with_turn, word_of}
use Rattle.retry_table.proofs.ContactLaws.{groups_free, groups_within, released_contacts, released_fits, released_seen}
use Rattle.retry_table.proofs.all_rows.AllRows.release.Goals as goal

pub overflow_add-self : goal.overflow_add-self
overflow_add-self c =
    let t = c.self.inside in
    let low : t.count + 1 < 2 ^ 32 =
    released_fits t.contacts.items t.released.items t.count c.self.invariant c.args.n c.args.group (groups_within t.contacts.items t.released.items c.args.self.now c.args.n c.self.view_is c.requires.room)
    (groups_free t.contacts.items t.released.items c.args.self.now c.args.n c.self.view_is c.requires.new) in
    omega (arith, low)

pub invariant_of-self : goal.invariant_of-self
invariant_of-self c =
    let t = c.self.inside in
    released_contacts t.contacts.items t.released.items t.count c.self.invariant c.args.n c.args.group (groups_within t.contacts.items t.released.items c.args.self.now c.args.n c.self.view_is c.requires.room)
    (groups_free t.contacts.items t.released.items c.args.self.now c.args.n c.self.view_is c.requires.new)

pub returns : goal.returns
returns c =
    let t = c.self.inside in
    released_seen t.contacts.items t.released.items t.count c.self.invariant c.args.n c.args.group (groups_within t.contacts.items t.released.items c.args.self.now c.args.n c.self.view_is c.requires.room)
    (groups_free t.contacts.items t.released.items c.args.self.now c.args.n c.self.view_is c.requires.new)
    ∙ ap (λ (v : RowsTable). record v { groups = set v.groups c.args.n (Some c.args.group) }) c.self.view_is
