use Rattle.std.proofs.Common.{◌≡◌, ◌<◌, List, length, nat_le, sym, ap, ◌∙◌, arith}
use Rattle.retry_table.specs.declared.contact_rows.ContactRows.{ContactRows}
use Rattle.retry_table.specs.Table.{KeptRow, RowsTable, rows_at}
use Rattle.retry_table.specs.Turns.{said_at, turns_in}
use Rattle.retry_table.proofs.ContactLaws.{seen_at}
use Rattle.retry_table.proofs.Said.{said_length}
use Rattle.retry_table.proofs.all_rows.AllRows.has_rows.Goals as goal

pub returns : goal.returns
returns c =
    let t = c.self.inside in
    let x : ContactRows = c.index.result.now in
    let within : c.args.contact < length t.contacts.items = omega (arith, c.self.invariant.many) in
    ap (nat_le c.args.numbers)
    (c.len.ensures.many
    ∙ (sym (said_length (said_at (turns_in x.turns.entries) t.released.items) 0 x.queues)
    ∙ (ap (λ (rows : List KeptRow). length rows) (sym (seen_at t.released.items t.contacts.items c.args.contact x within c.index.ensures))
    ∙ ap (λ (v : RowsTable). length (rows_at v c.args.contact)) c.self.view_is)))
