use Rattle.std.proofs.Common.{◌≡◌, ℕ, ◌+◌, ◌-◌, ◌<◌, ◌≤◌, ◌^◌, ◌++◌, Bool, List, [], Option, None, Some, IfOk, OnErr, Result, length, map, get_or, set, replicate, vec_len, take, refl, sym, ap, subst, ◌∙◌, arith, rules, length-append}
use Rattle.std.proofs.lemmas.List.{length-set, length-replicate, take_all}
use Rattle.retry_table.specs.declared.contact_rows.ContactRows.{ContactRows}
use Rattle.retry_table.specs.declared.contact_rows.Released.{Released}
use Rattle.retry_table.specs.declared.contact_rows.Turn.{Turn}
use Rattle.retry_table.specs.Contacts.{AreContacts, IsSaidFor}
use Rattle.retry_table.specs.Due.{message_in, offers_in, owed_in}
use Rattle.retry_table.specs.Queues.{is_sought}
use Rattle.retry_table.specs.Table.{KeptRow, RowsTable, kept_in, no_kept, rows_at, with_numbers, with_ready, with_rows}
use Rattle.retry_table.specs.Turns.{as_said, group_of, said_at, shown, turned, turns_in, with_turn, word_of}
use Rattle.retry_table.proofs.ContactLaws.{contacts_set, rows_seen, said_for, seen_of, seen_set, seen_word, word_for}
use Rattle.retry_table.proofs.all_rows.AllRows.set_group.Goals as goal

pub invariant_of-self : goal.invariant_of-self
invariant_of-self c =
    let t = c.self.inside in
    let x : ContactRows = c.index_mut.result.now in
    let new : ContactRows = c.say.new.self in
    let turn : Turn = record { shared = c.args.ready; before = t.count } in
    let within : c.args.contact < length t.contacts.items = omega (arith, c.self.invariant.many) in
    let seen : rows_at c.args.self.now c.args.contact ≡ seen_of t.released.items x = rows_seen t.contacts.items t.released.items c.args.self.now c.args.contact x c.self.view_is within c.index_mut.ensures.value in
    contacts_set t.contacts.items t.released.items t.count c.self.invariant c.args.contact new
    (word_for t.contacts.items t.released.items t.count c.self.invariant c.args.contact x new (said_for t.contacts.items t.released.items t.count c.args.contact x c.self.invariant within c.index_mut.ensures.value)
    c.args.group turn refl
    (subst (λ (r : List (Option Released)). seen_of r new ≡ as_said (said_at (with_turn c.args.group turn (turns_in x.turns.entries)) r) 0 x.queues) c.as_slice-released.ensures.value c.say.ensures.shown)
    c.say.ensures.many c.say.ensures.turns c.say.ensures.room
    (λ n e. subst (λ (rs : List KeptRow). n < length rs) seen (c.requires n (ap (λ (v : RowsTable). get_or v.groups n None) (sym c.self.view_is) ∙ e))))

pub returns : goal.returns
returns c =
    let t = c.self.inside in
    let x : ContactRows = c.index_mut.result.now in
    let new : ContactRows = c.say.new.self in
    let turn : Turn = record { shared = c.args.ready; before = t.count } in
    let within : c.args.contact < length t.contacts.items = omega (arith, c.self.invariant.many) in
    let seen : rows_at c.args.self.now c.args.contact ≡ seen_of t.released.items x = rows_seen t.contacts.items t.released.items c.args.self.now c.args.contact x c.self.view_is within c.index_mut.ensures.value in
    let groups : map group_of t.released.items ≡ c.args.self.now.groups = ap (λ (v : RowsTable). v.groups) c.self.view_is in
    let rows : List KeptRow = as_said (word_of c.args.self.now.groups c.args.group c.args.ready) 0 (rows_at c.args.self.now c.args.contact) in
    seen_set t.released.items t.contacts.items c.args.contact new rows
    (seen_word t.contacts.items t.released.items t.count c.self.invariant c.args.contact x new (said_for t.contacts.items t.released.items t.count c.args.contact x c.self.invariant within c.index_mut.ensures.value)
    c.args.group turn refl
    (subst (λ (r : List (Option Released)). seen_of r new ≡ as_said (said_at (with_turn c.args.group turn (turns_in x.turns.entries)) r) 0 x.queues) c.as_slice-released.ensures.value c.say.ensures.shown)
    c.say.ensures.many c.say.ensures.turns c.say.ensures.room
    (λ n e. subst (λ (rs : List KeptRow). n < length rs) seen (c.requires n (ap (λ (v : RowsTable). get_or v.groups n None) (sym c.self.view_is) ∙ e)))
    ∙ (λ j. as_said (word_of (groups j) c.args.group c.args.ready) 0 (sym seen j)))
    ∙ ap (λ (v : RowsTable). with_rows c.args.contact rows v) c.self.view_is
