use Rattle.std.proofs.Common.{◌≡◌, ℕ, ◌+◌, ◌-◌, ◌<◌, ◌≤◌, ◌^◌, ◌++◌, Bool, List, [], Option, None, Some, IfOk, OnErr, Result, length, map, get_or, set, replicate, vec_len, take, sym, ap, subst, ◌∙◌, arith, rules, length-append}
use Rattle.std.proofs.lemmas.List.{length-set, length-replicate, take_all}
use Rattle.retry_table.specs.declared.contact_rows.ContactRows.{ContactRows}
use Rattle.retry_table.specs.declared.contact_rows.Released.{Released}
use Rattle.retry_table.specs.declared.contact_rows.Turn.{Turn}
use Rattle.retry_table.specs.Contacts.{AreContacts, IsSaidFor}
use Rattle.retry_table.specs.Due.{message_in, offers_in, owed_in}
use Rattle.retry_table.specs.Queues.{is_sought}
use Rattle.retry_table.specs.Table.{KeptRow, RowsTable, kept_in, no_kept, rows_at, with_numbers, with_ready, with_rows}
use Rattle.retry_table.specs.Turns.{as_said, group_of, said_at, shown, turned, turns_in, with_turn, word_of}
use Rattle.retry_table.proofs.ContactLaws.{same_turns, seen_of, seen_ready}
use Rattle.retry_table.proofs.contact_rows.ContactRows.set_ready.Goals as goal

pub put_ready-requires : goal.put_ready-requires
put_ready-requires c = let m = c.settle.ensures.many in omega (arith, m, c.requires)

pub returns-clause-shown : goal.returns-clause-shown
returns-clause-shown c =
    let within : c.args.n < length c.settle.new.self.queues = (let m = c.settle.ensures.many in omega (arith, m, c.requires)) in
    seen_ready c.args.released.now c.settle.new.self c.put_ready.new.self c.args.n c.args.ready within c.settle.ensures.none c.put_ready.ensures.turns c.put_ready.ensures.queues
    ∙ ap (λ (rs : List KeptRow). set rs c.args.n (with_ready c.args.ready (kept_in rs c.args.n))) c.settle.ensures.shown

pub returns-clause-many : goal.returns-clause-many
returns-clause-many c =
    ap (λ (rs : List KeptRow). length rs) c.put_ready.ensures.queues
    ∙ (length-set c.settle.new.self.queues c.args.n (with_ready c.args.ready (kept_in c.settle.new.self.queues c.args.n)) ∙ c.settle.ensures.many)

pub returns-clause-turns : goal.returns-clause-turns
returns-clause-turns c = λ g t e. c.settle.ensures.turns g t (same_turns c.settle.new.self c.put_ready.new.self c.put_ready.ensures.turns g t e)
