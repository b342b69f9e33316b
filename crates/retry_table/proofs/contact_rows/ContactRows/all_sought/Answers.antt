use Rattle.std.proofs.Common.{◌≡◌, ℕ, ◌+◌, ◌-◌, ◌<◌, ◌≤◌, ◌^◌, ◌++◌, Bool, List, [], Option, None, Some, IfOk, OnErr, Result, length, map, get_or, set, replicate, vec_len, take, sym, ap, subst, ◌∙◌, arith, rules, length-append}
use Rattle.std.proofs.lemmas.List.{length-set, length-replicate, take_all}
use Rattle.retry_table.specs.declared.contact_rows.ContactRows.{ContactRows}
use Rattle.retry_table.specs.declared.contact_rows.Released.{Released}
use Rattle.retry_table.specs.declared.contact_rows.Turn.{Turn}
use Rattle.retry_table.specs.Contacts.{AreContacts, IsSaidFor}
use Rattle.retry_table.specs.Due.{message_in, offers_in, owed_in}
use Rattle.retry_table.specs.Queues.{is_sought}
use Rattle.retry_table.specs.Table.{KeptRow, RowsTable, kept_in, no_kept, rows_at, with_numbers, with_ready, with_rows}
use Rattle.retry_table.specs.Turns.{as_said, group_of, said_at, shown, turned, turns_in, with_turn, word_of}
use Rattle.sync_ids.specs.declared.lists.TheConstants.{MAX_IDS}
use Rattle.retry_table.proofs.Listing.{AreFound, found_more, found_none}
use Rattle.retry_table.proofs.contact_rows.ContactRows.all_sought.Goals as goal

pub returns-in-None : goal.returns-in-None
returns-in-None c =
    found_none (is_sought c.args.sought) (shown c.args.released.now c.args.self.now.turns.entries c.args.self.now.queues) MAX_IDS c.loop-i.places.items c.loop-i.from c.loop-i._i c.loop-i.invariant (sym c.in-None.ensures.first)

pub loop-i-preserved : goal.loop-i-preserved
loop-i-preserved c =
    let xs : List KeptRow = shown c.args.released.now c.args.self.now.turns.entries c.args.self.now.queues in
    subst (λ (found : List ℕ). AreFound (is_sought c.args.sought) xs MAX_IDS found (c.in-Some.place + 1) (c.loop-i._i + 1)) (sym c.in_ok-push-in-Some.ensures.items)
    (found_more (is_sought c.args.sought) xs MAX_IDS c.loop-i.places.items c.loop-i.from c.loop-i._i c.loop-i.invariant c.in-Some.place c.loop-i-test.true (sym c.in-Some.ensures.first))
