use Rattle.std.proofs.Common.{◌≡◌, ℕ, ◌+◌, ◌-◌, ◌<◌, ◌≤◌, ◌^◌, ◌++◌, Bool, List, [], Option, None, Some, IfOk, length, map, get_or, set, replicate, sym, ap, subst, ◌∙◌, arith}
use Rattle.std.proofs.lemmas.List.{length-set}
use Rattle.retry_table.specs.declared.contact_rows.ContactRows.{ContactRows}
use Rattle.retry_table.specs.declared.contact_rows.Released.{Released}
use Rattle.retry_table.specs.Contacts.{AreContacts, IsSaidFor}
use Rattle.retry_table.specs.Due.{sooner_in}
use Rattle.retry_table.specs.Table.{KeptRow, RowsTable, kept_in, rows_at, with_numbers, with_ready, with_rows}
use Rattle.retry_table.specs.Turns.{as_said, group_of, said_at, turns_in, word_of}
use Rattle.retry_table.proofs.ContactLaws.{seen_at, seen_of}
use Rattle.retry_table.proofs.all_rows.AllRows.sooner_message.Goals as goal

pub returns : goal.returns
returns c =
    let t = c.self.inside in
    let x : ContactRows = c.index.result.now in
    let within : c.args.contact < length t.contacts.items = omega (arith, c.self.invariant.many) in
    c.sooner_message.ensures
    ∙ (ap (λ (r : List (Option Released)). sooner_in c.args.latency c.args.now (seen_of r x)) c.as_slice-released.ensures.value
    ∙ (ap (λ (rows : List KeptRow). sooner_in c.args.latency c.args.now rows) (sym (seen_at t.released.items t.contacts.items c.args.contact x within c.index.ensures))
    ∙ ap (λ (v : RowsTable). sooner_in c.args.latency c.args.now (rows_at v c.args.contact)) c.self.view_is))
