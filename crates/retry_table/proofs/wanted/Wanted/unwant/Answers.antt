use Rattle.std.proofs.Common.{◌≡◌, false, List, [], ◌∷◌, length, refl, subst, sym, ap, ◌∙◌, arith}
use Rattle.sync_rules.specs.Facts.{Id}
use Rattle.sync_rules.specs.Lists.{is_among, without}
use Rattle.retry_table.specs.Table.{WantedFromContact}
use Rattle.retry_table.proofs.WantedIds.{among_is, removed_is}
use Rattle.retry_table.proofs.wanted.Wanted.unwant.Goals as goal

pub returns-then-not-is_empty : goal.returns-then-not-is_empty
returns-then-not-is_empty c =
    let w = c.self.inside in
    let id = c.args.id.now in
    let none : is_among c.shift_remove.new.self.keys id ≡ false = sym (among_is c.shift_remove.new.self.keys id) ∙ c.shift_remove.ensures.updates.1 in
    let keys : c.shift_remove.new.self.keys ≡ without id w.ids.keys =
    c.shift_remove.ensures.keys ∙ removed_is w.ids.keys id (subst (λ ids. is_among ids id ≡ false) c.shift_remove.ensures.keys none) in
    let is : WantedFromContact = record { ids = without id w.ids.keys; room = w.room } in
    ap (λ ids. record is { ids = ids }) keys ∙ ap (λ (v : WantedFromContact). record v { ids = without id v.ids }) c.self.view_is

pub returns-else-not-is_empty : goal.returns-else-not-is_empty
returns-else-not-is_empty c =
    let none : c.self.inside.ids.keys ≡ [] = length_none c.self.inside.ids.keys (c.if-not-is_empty.ensures.0 refl) in
    let ids : c.args.self.now.ids ≡ [] = ap (λ (v : WantedFromContact). v.ids) (sym c.self.view_is) ∙ none in
    λ i. record c.args.self.now { ids = (ids ∙ ap (without c.args.id.now) (sym ids)) i }
  where
    length_none : (xs : List Id) → length xs ≡ 0 → xs ≡ []
    length_none [] h = refl
    length_none (x ∷ xs) h = absurd (omega arith)
