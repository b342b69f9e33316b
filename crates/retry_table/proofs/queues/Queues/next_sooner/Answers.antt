use Rattle.std.proofs.Common.{◌≡◌, ◌≤◌, ◌<◌, ◌^◌, ℕ, List, length, drop, ap, ◌∙◌, arith}
use Rattle.std.specs.List.{position_from}
use Rattle.retry_table.specs.Due.{is_sooner_at}
use Rattle.retry_table.specs.Table.{KeptRow}
use Rattle.retry_table.proofs.Listing.{within_small}
use Rattle.retry_table.proofs.queues.Queues.next_sooner.Goals as goal

pub returns-clause-first : goal.returns-clause-first
returns-clause-first c =
    c.next_sooner.ensures
    ∙ (ap (λ (rows : List KeptRow). position_from (is_sooner_at c.args.latency c.args.now) c.args.from (drop c.args.from rows)) c.deref.ensures.value
    ∙ ap (λ (rows : List KeptRow). position_from (is_sooner_at c.args.latency c.args.now) c.args.from (drop c.args.from rows)) c.self.view_is)

pub returns-clause-small : goal.returns-clause-small
returns-clause-small c =
    let q = c.self.inside in
    let rows : List KeptRow = q.rows.items in
    let few : length rows ≤ 2 ^ 32 = omega (arith, c.self.invariant.by_request.room, c.self.invariant.by_request.small) in
    within_small (is_sooner_at c.args.latency c.args.now) rows c.args.from (2 ^ 32) c.next_sooner.result
    (c.next_sooner.ensures
    ∙ ap (λ (rows : List KeptRow). position_from (is_sooner_at c.args.latency c.args.now) c.args.from (drop c.args.from rows)) c.deref.ensures.value) few
