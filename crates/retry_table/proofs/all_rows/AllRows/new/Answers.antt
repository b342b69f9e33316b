use Rattle.std.proofs.Common.{◌≡◌, ℕ, ◌+◌, ◌-◌, ◌<◌, ◌≤◌, ◌^◌, ◌++◌, Bool, List, [], Option, None, Some, IfOk, OnErr, Result, length, map, get_or, set, replicate, vec_len, take, sym, ap, subst, ◌∙◌, arith, rules, length-append}
use Rattle.std.proofs.lemmas.List.{length-set, length-replicate, take_all}
use Rattle.retry_table.specs.declared.contact_rows.ContactRows.{ContactRows}
use Rattle.retry_table.specs.declared.contact_rows.Released.{Released}
use Rattle.retry_table.specs.declared.contact_rows.Turn.{Turn}
use Rattle.retry_table.specs.Contacts.{AreContacts, IsSaidFor}
use Rattle.retry_table.specs.Due.{message_in, offers_in, owed_in}
use Rattle.retry_table.specs.Queues.{is_sought}
use Rattle.retry_table.specs.Table.{KeptRow, RowsTable, kept_in, no_kept, rows_at, with_numbers, with_ready, with_rows}
use Rattle.retry_table.specs.Turns.{as_said, group_of, said_at, shown, turned, turns_in, with_turn, word_of}
use Rattle.retry_table.proofs.ContactLaws.{blank_rows, seen_all}
use Rattle.retry_table.proofs.all_rows.AllRows.new.Goals as goal

pub returns-clause-rows : goal.returns-clause-rows
returns-clause-rows c =
    λ contact. ap (λ (os : List (Option Released)). rows_at (seen_all c.in_ok-contacts.contacts.items os) contact) c.new.ensures.items
    ∙ blank_rows c.in_ok-contacts.contacts.items contact c.in_ok-contacts.ensures.none
