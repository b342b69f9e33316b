use Rattle.std.proofs.Common.{◌≡◌, ℕ, ◌+◌, ◌-◌, ◌<◌, ◌≤◌, ◌^◌, ◌++◌, Bool, List, [], Option, None, Some, IfOk, OnErr, Result, length, map, get_or, set, replicate, vec_len, take, sym, ap, subst, ◌∙◌, arith, rules, length-append}
use Rattle.std.proofs.lemmas.List.{length-set, length-replicate, take_all}
use Rattle.retry_table.specs.declared.contact_rows.ContactRows.{ContactRows}
use Rattle.retry_table.specs.declared.contact_rows.Released.{Released}
use Rattle.retry_table.specs.declared.contact_rows.Turn.{Turn}
use Rattle.retry_table.specs.Contacts.{AreContacts, IsSaidFor}
use Rattle.retry_table.specs.Due.{message_in, offers_in, owed_in}
use Rattle.retry_table.specs.Queues.{is_sought}
use Rattle.retry_table.specs.Table.{KeptRow, RowsTable, kept_in, no_kept, rows_at, with_numbers, with_ready, with_rows}
use Rattle.retry_table.specs.Turns.{as_said, group_of, said_at, shown, turned, turns_in, with_turn, word_of}
use Rattle.retry_table.proofs.ContactLaws.{contacts_set, rows_seen, rows_within, said_for, same_turns, seen_of, seen_put, seen_set, still_for}
use Rattle.retry_table.proofs.all_rows.AllRows.put.Goals as goal

pub put-requires : goal.put-requires
put-requires c =
    let t = c.self.inside in
    let within : c.args.contact < length t.contacts.items = omega (arith, c.self.invariant.many) in
    rows_within t.contacts.items t.released.items c.args.self.now c.args.contact c.args.n c.index_mut.result.now c.self.view_is within c.index_mut.ensures.value c.requires

pub invariant_of-self : goal.invariant_of-self
invariant_of-self c =
    let t = c.self.inside in
    let x : ContactRows = c.index_mut.result.now in
    let new : ContactRows = c.put.new.self in
    let within : c.args.contact < length t.contacts.items = omega (arith, c.self.invariant.many) in
    let long : length new.queues ≡ length x.queues = ap (λ (rs : List KeptRow). length rs) c.put.ensures.queues ∙ length-set x.queues c.args.n (record c.args.row { ready = (kept_in x.queues c.args.n).ready }) in
    contacts_set t.contacts.items t.released.items t.count c.self.invariant c.args.contact new
    (still_for t.released.items t.count x new (said_for t.contacts.items t.released.items t.count c.args.contact x c.self.invariant within c.index_mut.ensures.value)
    c.put.ensures.room (same_turns x new c.put.ensures.turns) (omega (arith, long)))

pub returns : goal.returns
returns c =
    let t = c.self.inside in
    let x : ContactRows = c.index_mut.result.now in
    let new : ContactRows = c.put.new.self in
    let within : c.args.contact < length t.contacts.items = omega (arith, c.self.invariant.many) in
    let now : List KeptRow = rows_at c.args.self.now c.args.contact in
    let there : c.args.n < length x.queues = rows_within t.contacts.items t.released.items c.args.self.now c.args.contact c.args.n x c.self.view_is within c.index_mut.ensures.value c.requires in
    seen_set t.released.items t.contacts.items c.args.contact new (set now c.args.n (record (kept_in now c.args.n) { row = c.args.row.row }))
    (seen_put t.released.items x new c.args.n c.args.row there c.put.ensures.turns c.put.ensures.queues
    ∙ ap (λ (rs : List KeptRow). set rs c.args.n (record (kept_in rs c.args.n) { row = c.args.row.row })) (sym (rows_seen t.contacts.items t.released.items c.args.self.now c.args.contact x c.self.view_is within c.index_mut.ensures.value)))
    ∙ ap (λ (v : RowsTable). with_rows c.args.contact (set now c.args.n (record (kept_in now c.args.n) { row = c.args.row.row })) v) c.self.view_is
