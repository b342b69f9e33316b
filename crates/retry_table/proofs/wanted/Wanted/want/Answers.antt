use Rattle.std.proofs.Common.{◌≡◌, ◌-◌, ◌++◌, ◌∷◌, [], false, if◌then◌else◌, ap, ◌∙◌}
use Rattle.sync_rules.specs.Lists.{is_among}
use Rattle.retry_table.specs.Table.{WantedFromContact}
use Rattle.retry_table.proofs.WantedIds.{among_is}
use Rattle.retry_table.proofs.wanted.Wanted.want.Goals as goal

pub returns : goal.returns
returns c =
    let w = c.self.inside in
    let new : is_among w.ids.keys c.args.id ≡ false = ap (λ (v : WantedFromContact). is_among v.ids c.args.id) c.self.view_is ∙ c.requires.new in
    let keys : c.insert.new.self.keys ≡ w.ids.keys ++ c.args.id ∷ [] =
    (rw c.unwrap.ensures at c.insert.ensures.keys) ∙ ap (λ b. if b then w.ids.keys else w.ids.keys ++ c.args.id ∷ []) (among_is w.ids.keys c.args.id ∙ new) in
    (λ i. record { ids = keys i; room = w.room - 1 }) ∙ ap (λ (v : WantedFromContact). record { ids = v.ids ++ c.args.id ∷ []; room = v.room - 1 }) c.self.view_is
