use Rattle.std.proofs.Common.{◌≡◌, List, IfOk, take, ap, subst, ◌∙◌}
use Rattle.std.proofs.lemmas.List.{take_min}
use Rattle.sync_rules.specs.Facts.{Id}
use Rattle.retry_table.specs.Table.{WantedFromContact}
use Rattle.retry_table.proofs.wanted.Wanted.requests.Goals as goal
use Rattle.sync_ids.specs.declared.lists.TheConstants.{MAX_IDS}

pub returns : goal.returns
returns c =
    let ids = c.as_slice-ids.result.now in
    subst (λ (list : List Id). IfOk c.from_slice.result (λ v. v.items ≡ list))
    (ap (λ n. take n ids) c.min-count.ensures ∙ take_min MAX_IDS ids
    ∙ ap (take MAX_IDS) (c.as_slice-ids.ensures.keys ∙ ap (λ (w : WantedFromContact). w.ids) c.self.view_is))
    c.from_slice.ensures.items
