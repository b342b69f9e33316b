use Rattle.std.proofs.Common.{◌≡◌, ℕ, List, IfOk, take, ap, subst, ◌∙◌}
use Rattle.retry_table.specs.Table.{KeptRow}
use Rattle.retry_table.specs.Due.{owed_in}
use Rattle.retry_table.proofs.Follows.{owed_found}
use Rattle.retry_table.proofs.queues.Queues.owed.Goals as goal
use Rattle.sync_ids.specs.declared.lists.TheConstants.{MAX_IDS}

pub returns : goal.returns
returns c =
    let q = c.self.inside in
    subst (λ (numbers : List ℕ). IfOk c.set_places.result (λ v. v.items ≡ numbers))
    (ap (take MAX_IDS) (owed_found q.rows.items q.owed c.self.invariant.by_debt) ∙ ap (λ (rows : List KeptRow). owed_in rows) c.self.view_is)
    c.set_places.ensures
