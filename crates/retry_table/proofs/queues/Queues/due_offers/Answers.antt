use Rattle.std.proofs.Common.{◌≡◌, ℕ, List, IfOk, take, ap, subst, ◌∙◌}
use Rattle.retry_table.specs.Table.{KeptRow}
use Rattle.retry_table.specs.Due.{offers_in, numbers_where}
use Rattle.retry_table.specs.Queues.{is_timely}
use Rattle.retry_table.specs.declared.blocks.Times.TheVariants as times
use Rattle.retry_table.proofs.Follows.{offers_found}
use Rattle.retry_table.proofs.queues.Queues.due_offers.Goals as goal
use Rattle.sync_ids.specs.declared.lists.TheConstants.{MAX_IDS}

pub returns : goal.returns
returns c =
    let q = c.self.inside in
    subst (λ (numbers : List ℕ). IfOk c.timely_places.result (λ v. v.items ≡ numbers))
    (ap (λ (rows : List KeptRow). take MAX_IDS (numbers_where (is_timely times.ToOffer c.args.now) 0 rows)) c.deref.ensures.value ∙ ap (take MAX_IDS) (offers_found q.rows.items c.args.now) ∙ ap (λ (rows : List KeptRow). offers_in c.args.now rows) c.self.view_is)
    c.timely_places.ensures
