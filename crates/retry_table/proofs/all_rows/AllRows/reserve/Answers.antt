use Rattle.std.proofs.Common.{◌≡◌, ℕ, ◌+◌, ◌-◌, ◌<◌, ◌≤◌, ◌^◌, ◌++◌, Bool, List, [], Option, None, Some, IfOk, OnErr, Result, length, map, get_or, set, replicate, vec_len, take, sym, ap, subst, ◌∙◌, arith, rules, length-append}
use Rattle.std.proofs.lemmas.List.{length-set, length-replicate, take_all}
use Rattle.retry_table.specs.declared.contact_rows.ContactRows.{ContactRows}
use Rattle.retry_table.specs.declared.contact_rows.Released.{Released}
use Rattle.retry_table.specs.declared.contact_rows.Turn.{Turn}
use Rattle.retry_table.specs.Contacts.{AreContacts, IsSaidFor}
use Rattle.retry_table.specs.Due.{message_in, offers_in, owed_in}
use Rattle.retry_table.specs.Queues.{is_sought}
use Rattle.retry_table.specs.Table.{KeptRow, RowsTable, kept_in, no_kept, rows_at, with_numbers, with_ready, with_rows}
use Rattle.retry_table.specs.Turns.{as_said, group_of, said_at, shown, turned, turns_in, with_turn, word_of}
use Rattle.retry_table.proofs.ContactLaws.{contacts_set, more_numbers, on_err, rows_seen, said_for, same_turns, seen_kept, seen_of, seen_reserved, seen_set, seen_still, still_for}
use Rattle.retry_table.proofs.all_rows.AllRows.reserve.Goals as goal

pub invariant_of-self : goal.invariant_of-self
invariant_of-self c =
    let t = c.self.inside in
    let x : ContactRows = c.index_mut.result.now in
    let new : ContactRows = c.reserve.new.self in
    let within : c.args.contact < length t.contacts.items = omega (arith, c.self.invariant.many) in
    let long : length new.queues ≡ length x.queues = ap (λ (rs : List KeptRow). length rs) c.in_err-reserve.ensures.err in
    contacts_set t.contacts.items t.released.items t.count c.self.invariant c.args.contact new
    (still_for t.released.items t.count x new (said_for t.contacts.items t.released.items t.count c.args.contact x c.self.invariant within c.index_mut.ensures.value)
    c.reserve.ensures.room (same_turns x new c.reserve.ensures.turns) (omega (arith, long)))

pub invariant_of-self-2 : goal.invariant_of-self-2
invariant_of-self-2 c =
    let t = c.self.inside in
    let x : ContactRows = c.index_mut.result.now in
    let new : ContactRows = c.reserve.new.self in
    let within : c.args.contact < length t.contacts.items = omega (arith, c.self.invariant.many) in
    let is : length new.queues ≡ length (with_numbers c.args.numbers x.queues) = ap (λ (rs : List KeptRow). length rs) c.in_ok-reserve.ensures.ok in
    let long : length x.queues ≤ length (with_numbers c.args.numbers x.queues) = more_numbers c.args.numbers x.queues in
    contacts_set t.contacts.items t.released.items t.count c.self.invariant c.args.contact new
    (still_for t.released.items t.count x new (said_for t.contacts.items t.released.items t.count c.args.contact x c.self.invariant within c.index_mut.ensures.value)
    c.reserve.ensures.room (same_turns x new c.reserve.ensures.turns) (omega (arith, is, long)))

pub returns-clause-ok : goal.returns-clause-ok
returns-clause-ok c =
    let t = c.self.inside in
    let x : ContactRows = c.index_mut.result.now in
    let new : ContactRows = c.reserve.new.self in
    let within : c.args.contact < length t.contacts.items = omega (arith, c.self.invariant.many) in
    let rows : List KeptRow = with_numbers c.args.numbers (rows_at c.args.self.now c.args.contact) in
    seen_set t.released.items t.contacts.items c.args.contact new rows
    (seen_reserved t.released.items t.count x new c.args.numbers (said_for t.contacts.items t.released.items t.count c.args.contact x c.self.invariant within c.index_mut.ensures.value)
    c.reserve.ensures.turns c.in_ok-reserve.ensures.ok
    ∙ ap (λ (rs : List KeptRow). with_numbers c.args.numbers rs) (sym (rows_seen t.contacts.items t.released.items c.args.self.now c.args.contact x c.self.view_is within c.index_mut.ensures.value)))
    ∙ ap (λ (v : RowsTable). with_rows c.args.contact rows v) c.self.view_is

pub returns-in_err-reserve-clause-err : goal.returns-in_err-reserve-clause-err
returns-in_err-reserve-clause-err c =
    let t = c.self.inside in
    let x : ContactRows = c.index_mut.result.now in
    let new : ContactRows = c.reserve.new.self in
    let within : c.args.contact < length t.contacts.items = omega (arith, c.self.invariant.many) in
    on_err c.from_residual.result _
    (seen_still t.released.items t.contacts.items c.args.contact x new within c.index_mut.ensures.value (seen_kept t.released.items x new c.reserve.ensures.turns c.in_err-reserve.ensures.err) ∙ c.self.view_is)
