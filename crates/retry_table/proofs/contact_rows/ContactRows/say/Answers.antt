use Rattle.std.proofs.Common.{◌≡◌, ℕ, ◌+◌, ◌-◌, ◌<◌, ◌≤◌, ◌^◌, ◌++◌, Bool, List, [], Option, None, Some, IfOk, OnErr, Result, length, map, get_or, set, replicate, vec_len, take, cond, nat_eq, sym, ap, subst, ◌∙◌, arith, rules, length-append}
use Rattle.std.proofs.lemmas.List.{length-set, length-replicate, take_all}
use Rattle.retry_table.specs.declared.contact_rows.ContactRows.{ContactRows}
use Rattle.retry_table.specs.declared.contact_rows.Released.{Released}
use Rattle.retry_table.specs.declared.contact_rows.Turn.{Turn}
use Rattle.retry_table.specs.Contacts.{AreContacts, IsSaidFor}
use Rattle.retry_table.specs.Due.{message_in, offers_in, owed_in}
use Rattle.retry_table.specs.Queues.{is_sought}
use Rattle.retry_table.specs.Table.{KeptRow, RowsTable, kept_in, no_kept, rows_at, with_numbers, with_ready, with_rows}
use Rattle.retry_table.specs.Turns.{as_said, group_of, said_at, shown, turned, turns_in, with_turn, word_of}
use Rattle.retry_table.proofs.Said.{said_again, said_length}
use Rattle.retry_table.proofs.contact_rows.ContactRows.say.Goals as goal

pub returns-in-Err-clause-shown : goal.returns-in-Err-clause-shown
returns-in-Err-clause-shown c =
    let x : ContactRows = c.args.self.now in
    let updates = rw c.unwrap.ensures at c.insert-in-Err.ensures.updates in
    let queues : c.bring.new.self.queues ≡ shown c.args.released.now x.turns.entries x.queues =
    c.bring.ensures.queues ∙ ap (λ (es : List (ℕ × Turn)). shown c.args.released.now es x.queues) c.in-Err.ensures.err in
    said_again c.args.released.now x.turns.entries c.insert-in-Err.new.self.entries x.queues c.bring.new.self.queues c.args.group c.args.turn c.requires.all queues
    (λ g. updates.0 g ∙ ap (λ (es : List (ℕ × Turn)). cond (nat_eq c.args.group g) (Some c.args.turn) (turns_in es g)) c.bring.ensures.turns)

pub returns-in-Err-clause-many : goal.returns-in-Err-clause-many
returns-in-Err-clause-many c =
    let x : ContactRows = c.args.self.now in
    ap (λ (rs : List KeptRow). length rs) c.bring.ensures.queues ∙ said_length (said_at (turns_in c.insert.new.self.entries) c.args.released.now) 0 x.queues
