use Rattle.std.proofs.Common.{ℕ, ◌^◌, ◌<◌, ◌∙◌, List, Option, IfSome, ap, sym, subst, arith}
use Rattle.sync_rules.specs.declared.entries.Mode.{Mode}
use Rattle.sync_rules.specs.declared.entries.Mode.TheVariants as mode
use Rattle.retry_table.specs.declared.blocks.Times.TheVariants as times
use Rattle.retry_table.specs.Table.{KeptRow}
use Rattle.retry_table.specs.Due.{message_in}
use Rattle.retry_table.specs.Queues.{is_timely, next_timely}
use Rattle.retry_table.proofs.Follows.{asked_found, message_found, position_small}
use Rattle.retry_table.proofs.queues.Queues.message_place.Goals as goal

pub returns-in-Interactive-clause-first : goal.returns-in-Interactive-clause-first
returns-in-Interactive-clause-first c =
    let q = c.self.inside in
    c.next.ensures ∙ asked_found q.rows.items q.asked c.args.now c.self.invariant.by_request
    ∙ ap (λ (rows : List KeptRow). message_in mode.Interactive c.args.now rows) c.self.view_is
    ∙ ap (λ (m : Mode). message_in m c.args.now c.args.self.now) (sym c.in-Interactive.is)

pub returns-in-Interactive-clause-small : goal.returns-in-Interactive-clause-small
returns-in-Interactive-clause-small c =
    let q = c.self.inside in
    subst (λ (o : Option ℕ). IfSome o (λ place. place < 2 ^ 32)) (sym c.next.ensures) (position_small (λ is_in. is_in) q.asked 0 (2 ^ 32) (omega (arith, c.self.invariant.by_request.small)))

pub returns-in-Batch-clause-first : goal.returns-in-Batch-clause-first
returns-in-Batch-clause-first c =
    let q = c.self.inside in
    c.next_at_most.ensures ∙ ap (λ (rows : List KeptRow). next_timely times.ToSend 0 c.args.now rows) c.deref.ensures.value ∙ message_found q.rows.items c.args.now
    ∙ ap (λ (rows : List KeptRow). message_in mode.Batch c.args.now rows) c.self.view_is
    ∙ ap (λ (m : Mode). message_in m c.args.now c.args.self.now) (sym c.in-Batch.is)

pub returns-in-Batch-clause-small : goal.returns-in-Batch-clause-small
returns-in-Batch-clause-small c =
    let q = c.self.inside in
    subst (λ (o : Option ℕ). IfSome o (λ place. place < 2 ^ 32)) (sym (c.next_at_most.ensures ∙ ap (λ (rows : List KeptRow). next_timely times.ToSend 0 c.args.now rows) c.deref.ensures.value))
    (position_small (is_timely times.ToSend c.args.now) q.rows.items 0 (2 ^ 32) (omega (arith, c.self.invariant.by_request.room, c.self.invariant.by_request.small)))
