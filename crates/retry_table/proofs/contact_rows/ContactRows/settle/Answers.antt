use Rattle.std.proofs.Common.{◌≡◌, ℕ, ◌+◌, ◌-◌, ◌<◌, ◌≤◌, ◌^◌, ◌++◌, Bool, List, [], Option, None, Some, IfOk, OnErr, Result, length, map, get_or, set, replicate, vec_len, take, sym, ap, subst, ◌∙◌, arith, rules, length-append}
use Rattle.std.proofs.lemmas.List.{length-set, length-replicate, take_all}
use Rattle.retry_table.specs.declared.contact_rows.ContactRows.{ContactRows}
use Rattle.retry_table.specs.declared.contact_rows.Released.{Released}
use Rattle.retry_table.specs.declared.contact_rows.Turn.{Turn}
use Rattle.retry_table.specs.Contacts.{AreContacts, IsSaidFor}
use Rattle.retry_table.specs.Due.{message_in, offers_in, owed_in}
use Rattle.retry_table.specs.Queues.{is_sought}
use Rattle.retry_table.specs.Table.{KeptRow, RowsTable, kept_in, no_kept, rows_at, with_numbers, with_ready, with_rows}
use Rattle.retry_table.specs.Turns.{as_said, group_of, said_at, shown, turned, turns_in, with_turn, word_of}
use Rattle.retry_table.proofs.ContactLaws.{same_none, seen_brought, seen_long, seen_of}
use Rattle.retry_table.proofs.Said.{nothing_said}
use Rattle.retry_table.proofs.contact_rows.ContactRows.settle.Goals as goal

pub returns-clause-shown : goal.returns-clause-shown
returns-clause-shown c = seen_brought c.args.released.now c.args.self.now c.bring.new.self c.bring.ensures.turns c.bring.ensures.queues

pub returns-clause-none : goal.returns-clause-none
returns-clause-none c = ap (λ (es : List (ℕ × Turn)). said_at (turns_in es) c.args.released.now c.args.n) c.bring.ensures.turns ∙ nothing_said c.args.released.now c.args.n

pub returns-clause-many : goal.returns-clause-many
returns-clause-many c = ap (λ (rs : List KeptRow). length rs) c.bring.ensures.queues ∙ seen_long c.args.released.now c.args.self.now

pub returns-clause-turns : goal.returns-clause-turns
returns-clause-turns c = same_none c.args.self.now c.bring.new.self c.bring.ensures.turns
