use Rattle.std.proofs.Common.{◌≡◌, ℕ, ◌+◌, ◌-◌, ◌<◌, ◌≤◌, ◌^◌, ◌++◌, Bool, List, [], Option, None, Some, IfOk, OnErr, Result, length, map, get_or, set, replicate, vec_len, take, sym, ap, subst, ◌∙◌, arith, rules, length-append}
use Rattle.std.proofs.lemmas.List.{length-set, length-replicate, take_all}
use Rattle.retry_table.specs.declared.contact_rows.ContactRows.{ContactRows}
use Rattle.retry_table.specs.declared.contact_rows.Released.{Released}
use Rattle.retry_table.specs.declared.contact_rows.Turn.{Turn}
use Rattle.retry_table.specs.Contacts.{AreContacts, IsSaidFor}
use Rattle.retry_table.specs.Due.{message_in, offers_in, owed_in}
use Rattle.retry_table.specs.Queues.{is_sought}
use Rattle.retry_table.specs.Table.{KeptRow, RowsTable, kept_in, no_kept, rows_at, with_numbers, with_ready, with_rows}
use Rattle.retry_table.specs.Turns.{as_said, group_of, said_at, shown, turned, turns_in, with_turn, word_of}
use Rattle.retry_table.proofs.ContactLaws.{contacts_set, rows_seen, rows_within, said_for, seen_of, seen_set, still_for}
use Rattle.retry_table.proofs.all_rows.AllRows.set_ready.Goals as goal

pub set_ready-requires : goal.set_ready-requires
set_ready-requires c =
    let t = c.self.inside in
    let within : c.args.contact < length t.contacts.items = omega (arith, c.self.invariant.many) in
    rows_within t.contacts.items t.released.items c.args.self.now c.args.contact c.args.n c.index_mut.result.now c.self.view_is within c.index_mut.ensures.value c.requires

pub invariant_of-self : goal.invariant_of-self
invariant_of-self c =
    let t = c.self.inside in
    let x : ContactRows = c.index_mut.result.now in
    let within : c.args.contact < length t.contacts.items = omega (arith, c.self.invariant.many) in
    contacts_set t.contacts.items t.released.items t.count c.self.invariant c.args.contact c.set_ready.new.self
    (still_for t.released.items t.count x c.set_ready.new.self (said_for t.contacts.items t.released.items t.count c.args.contact x c.self.invariant within c.index_mut.ensures.value)
    c.set_ready.ensures.room c.set_ready.ensures.turns (let m = c.set_ready.ensures.many in omega (arith, m)))

pub returns : goal.returns
returns c =
    let t = c.self.inside in
    let x : ContactRows = c.index_mut.result.now in
    let new : ContactRows = c.set_ready.new.self in
    let within : c.args.contact < length t.contacts.items = omega (arith, c.self.invariant.many) in
    let now : List KeptRow = rows_at c.args.self.now c.args.contact in
    seen_set t.released.items t.contacts.items c.args.contact new (set now c.args.n (with_ready c.args.ready (kept_in now c.args.n)))
    (subst (λ (r : List (Option Released)). seen_of r new ≡ set (seen_of r x) c.args.n (with_ready c.args.ready (kept_in (seen_of r x) c.args.n))) c.as_slice-released.ensures.value c.set_ready.ensures.shown
    ∙ ap (λ (rs : List KeptRow). set rs c.args.n (with_ready c.args.ready (kept_in rs c.args.n))) (sym (rows_seen t.contacts.items t.released.items c.args.self.now c.args.contact x c.self.view_is within c.index_mut.ensures.value)))
    ∙ ap (λ (v : RowsTable). with_rows c.args.contact (set now c.args.n (with_ready c.args.ready (kept_in now c.args.n))) v) c.self.view_is
