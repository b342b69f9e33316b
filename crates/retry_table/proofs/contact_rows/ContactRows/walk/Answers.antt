use Rattle.std.proofs.Common.{◌≡◌, ℕ, ◌+◌, ◌-◌, ◌<◌, ◌≤◌, ◌^◌, ◌++◌, Bool, List, [], Option, None, Some, IfOk, OnErr, Result, length, map, get_or, set, replicate, vec_len, take, sym, ap, subst, ◌∙◌, arith, rules, length-append}
use Rattle.std.proofs.lemmas.List.{length-set, length-replicate, take_all}
use Rattle.retry_table.specs.declared.contact_rows.ContactRows.{ContactRows}
use Rattle.retry_table.specs.declared.contact_rows.Released.{Released}
use Rattle.retry_table.specs.declared.contact_rows.Turn.{Turn}
use Rattle.retry_table.specs.Contacts.{AreContacts, IsSaidFor}
use Rattle.retry_table.specs.Due.{message_in, offers_in, owed_in}
use Rattle.retry_table.specs.Queues.{is_sought}
use Rattle.retry_table.specs.Table.{KeptRow, RowsTable, kept_in, no_kept, rows_at, with_numbers, with_ready, with_rows}
use Rattle.retry_table.specs.Turns.{as_said, group_of, said_at, shown, turned, turns_in, with_turn, word_of}
use Rattle.std.specs.List.{position_from}
use Rattle.std.proofs.Common.{drop}
use Rattle.retry_table.proofs.Said.{said_length, sought_found, sought_none}
use Rattle.retry_table.proofs.contact_rows.ContactRows.walk.Goals as goal

pub returns-then-is_sought-clause-first : goal.returns-then-is_sought-clause-first
returns-then-is_sought-clause-first c =
    let x : ContactRows = c.args.self.now in
    let rows : List KeptRow = shown c.args.released.now x.turns.entries x.queues in
    let long : length rows ≡ length x.queues = said_length (said_at (turns_in x.turns.entries) c.args.released.now) 0 x.queues in
    sym (sought_found (is_sought c.args.sought) rows c.args.from c.loop-n.n (omega arith) (omega (arith, long, c.len-n-end.ensures.many, c.loop-n-test.true)) c.loop-n.invariant
    (ap (is_sought c.args.sought) (sym c.row.ensures) ∙ (sym c.is_sought.ensures ∙ c.if-is_sought.true)))

pub returns-clause-first : goal.returns-clause-first
returns-clause-first c =
    let x : ContactRows = c.args.self.now in
    let rows : List KeptRow = shown c.args.released.now x.turns.entries x.queues in
    let long : length rows ≡ length x.queues = said_length (said_at (turns_in x.turns.entries) c.args.released.now) 0 x.queues in
    sym (sought_none (is_sought c.args.sought) rows c.args.from (λ k low high. c.loop-n.invariant k low (omega (arith, high, long, c.len-n-end.ensures.many, c.loop-n-test.false))))
