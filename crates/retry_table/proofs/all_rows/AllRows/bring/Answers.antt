use Rattle.std.proofs.Common.{◌≡◌, ℕ, ◌+◌, ◌-◌, ◌<◌, ◌≤◌, ◌^◌, ◌++◌, Bool, List, [], Option, None, Some, IfOk, OnErr, Result, length, map, get_or, set, replicate, vec_len, take, sym, ap, subst, ◌∙◌, arith, rules, length-append}
use Rattle.std.proofs.lemmas.List.{length-set, length-replicate, take_all}
use Rattle.retry_table.specs.declared.contact_rows.ContactRows.{ContactRows}
use Rattle.retry_table.specs.declared.contact_rows.Released.{Released}
use Rattle.retry_table.specs.declared.contact_rows.Turn.{Turn}
use Rattle.retry_table.specs.Contacts.{AreContacts, IsSaidFor}
use Rattle.retry_table.specs.Due.{message_in, offers_in, owed_in}
use Rattle.retry_table.specs.Queues.{is_sought}
use Rattle.retry_table.specs.Table.{KeptRow, RowsTable, kept_in, no_kept, rows_at, with_numbers, with_ready, with_rows}
use Rattle.retry_table.specs.Turns.{as_said, group_of, said_at, shown, turned, turns_in, with_turn, word_of}
use Rattle.retry_table.proofs.ContactLaws.{contacts_set, said_for, same_none, seen_brought, seen_long, seen_of, seen_still, still_for}
use Rattle.retry_table.proofs.all_rows.AllRows.bring.Goals as goal

pub invariant_of-self : goal.invariant_of-self
invariant_of-self c =
    let t = c.self.inside in
    let x : ContactRows = c.index_mut.result.now in
    let new : ContactRows = c.bring.new.self in
    let within : c.args.contact < length t.contacts.items = omega (arith, c.self.invariant.many) in
    let queues : new.queues ≡ seen_of t.released.items x = subst (λ (r : List (Option Released)). new.queues ≡ seen_of r x) c.as_slice-released.ensures.value c.bring.ensures.queues in
    let long : length new.queues ≡ length x.queues = ap (λ (rs : List KeptRow). length rs) queues ∙ seen_long t.released.items x in
    contacts_set t.contacts.items t.released.items t.count c.self.invariant c.args.contact new
    (still_for t.released.items t.count x new (said_for t.contacts.items t.released.items t.count c.args.contact x c.self.invariant within c.index_mut.ensures.value)
    c.bring.ensures.room (same_none x new c.bring.ensures.turns) (omega (arith, long)))

pub returns : goal.returns
returns c =
    let t = c.self.inside in
    let x : ContactRows = c.index_mut.result.now in
    let new : ContactRows = c.bring.new.self in
    let within : c.args.contact < length t.contacts.items = omega (arith, c.self.invariant.many) in
    let queues : new.queues ≡ seen_of t.released.items x = subst (λ (r : List (Option Released)). new.queues ≡ seen_of r x) c.as_slice-released.ensures.value c.bring.ensures.queues in
    seen_still t.released.items t.contacts.items c.args.contact x new within c.index_mut.ensures.value (seen_brought t.released.items x new c.bring.ensures.turns queues) ∙ c.self.view_is
