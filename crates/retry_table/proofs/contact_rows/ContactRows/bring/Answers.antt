use Rattle.std.proofs.Common.{sym}
use Rattle.retry_table.specs.declared.contact_rows.ContactRows.{ContactRows}
use Rattle.retry_table.proofs.Said.{none_listed, said_nothing}
use Rattle.retry_table.proofs.contact_rows.ContactRows.bring.Goals as goal

pub returns-then-is_empty-clause-queues : goal.returns-then-is_empty-clause-queues
returns-then-is_empty-clause-queues c =
    let x : ContactRows = c.args.self.now in
    sym (said_nothing c.args.released.now x.turns.entries x.queues
    (c.is_empty.ensures.0 c.if-is_empty.true))

pub returns-then-is_empty-clause-turns : goal.returns-then-is_empty-clause-turns
returns-then-is_empty-clause-turns c =
    none_listed c.args.self.now.turns.entries (c.is_empty.ensures.0 c.if-is_empty.true)
