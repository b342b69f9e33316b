use Rattle.std.proofs.Common.{◌≡◌, ℕ, List, Option, None, Some, IfSome, drop, sym, ap, subst, ◌∙◌}
use Rattle.std.specs.List.{position_from}
use Rattle.retry_table.specs.declared.contact_rows.ContactRows.{ContactRows}
use Rattle.retry_table.specs.declared.contact_rows.Released.{Released}
use Rattle.retry_table.specs.declared.rows.Sought.{Sought}
use Rattle.retry_table.specs.declared.rows.Sought.TheVariants as sought
use Rattle.retry_table.specs.Due.{is_sooner_at}
use Rattle.retry_table.specs.Queues.{is_sought}
use Rattle.retry_table.specs.Table.{KeptRow}
use Rattle.retry_table.specs.Turns.{shown}
use Rattle.retry_table.proofs.Said.{said_nothing}
use Rattle.retry_table.proofs.contact_rows.ContactRows.next_in_queues.Goals as goal

pub returns-in-Sooner-clause-first : goal.returns-in-Sooner-clause-first
returns-in-Sooner-clause-first c = λ released.
    let x : ContactRows = c.args.self.now in
    let nothing = said_nothing released x.turns.entries x.queues (c.is_empty.ensures.0 c.if-is_empty.true) in
    subst (λ (s : Sought). IfSome c.next_sooner.result (λ found. found ≡ position_from (is_sought s) c.args.from (drop c.args.from (shown released x.turns.entries x.queues)))) (sym c.in-Sooner.is)
    (subst (λ (rows : List KeptRow). IfSome c.next_sooner.result (λ found. found ≡ position_from (is_sooner_at c.in-Sooner.latency c.in-Sooner.now) c.args.from (drop c.args.from rows))) (sym nothing)
    c.next_sooner.ensures.first)

pub returns-in-Sooner-clause-small : goal.returns-in-Sooner-clause-small
returns-in-Sooner-clause-small c = c.next_sooner.ensures.small
