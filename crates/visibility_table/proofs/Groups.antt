-- Groups kept as a list of ids with their definitions.
use Rattle.std.proofs.Common.{◌≡◌, ℕ, suc, ◌+◌, ◌-◌, ◌≤◌, Bool, true, false, cond, List, [], ◌∷◌, map, Option, Some, None, position, slice_get, refl, sym, ◌∙◌, ap, subst, arith, MatchOption}
use Rattle.std.specs.List.{position_from}
use Rattle.std.specs.Map.{lookup, keys_of}
use Rattle.std.proofs.lemmas.Cmp.{nat_list_eq_equiv}
use Rattle.std.proofs.lemmas.Iterator.Adapters.{position_from-zero}
use Rattle.sync_ids.specs.Values.{GroupValue}
use Rattle.sync_rules.specs.Lists.{same_id}
use Rattle.sync_rules.specs.Facts.{Id, Known, group_at}
use Rattle.visibility_table.specs.Table.{known, group_number}

id_swap : (a b : Id) → same_id a b ≡ same_id b a
id_swap a b = nat_list_eq_equiv.symm a b

at_keys : (id : Id) (i : ℕ) (es : List (Id × GroupValue)) → position_from (same_id id) i (keys_of es) ≡ position_from (λ (g : Known). same_id g.id id) i (map known es)
at_keys id i [] = refl
at_keys id i (e ∷ es) = λ j. cond (id_swap id e.0 j) (Some i) (at_keys id (i + 1) es j)

pub position_is : {X : Type 0} (p : X → Bool) (xs : List X) → position p xs ≡ position_from p 0 xs
position_is p [] = refl
position_is p (x ∷ xs) = position_from-zero p (x ∷ xs)

-- the place of an id among those that are kept is the number of its group
pub kept_number : (id : Id) (es : List (Id × GroupValue))
    → position (same_id id) (keys_of es) ≡ group_number (map known es) id
kept_number id es =
    position_is (same_id id) (keys_of es) ∙ (at_keys id 0 es ∙ sym (position_is (λ (g : Known). same_id g.id id) (map known es)))

abbrev IsFrom : List Known → Id → ℕ → Option ℕ → Type 0
IsFrom gs id i r = MatchOption r (group_at gs id ≡ None) (λ n. (i ≤ n) × (slice_get gs (n - i) ≡ group_at gs id))

further : (g : Known) (gs : List Known) (id : Id) (i : ℕ) → same_id g.id id ≡ false → (r : Option ℕ) → IsFrom gs id (i + 1) r → IsFrom (g ∷ gs) id i r
further g gs id i other None h = ap (λ b. cond b (Some g) (group_at gs id)) other ∙ h
further g gs id i other (Some n) h =
    let within : i ≤ n = omega (arith, h.0) in
    let next : n - i ≡ suc (n - (i + 1)) = omega (arith, h.0) in
    (within, ap (slice_get (g ∷ gs)) next ∙ (h.1 ∙ sym (ap (λ b. cond b (Some g) (group_at gs id)) other)))

from : (gs : List Known) (id : Id) (i : ℕ) → IsFrom gs id i (position_from (λ (g : Known). same_id g.id id) i gs)
from [] id i = refl
from (g ∷ gs) id i =
    elim (same_id g.id id) as (λ b. same_id g.id id ≡ b → IsFrom (g ∷ gs) id i (cond b (Some i) (position_from (λ (x : Known). same_id x.id id) (i + 1) gs))) [
      | true ↦ λ e.
          let here : i ≤ i = omega arith in
          let zero_left : i - i ≡ 0 = omega arith in
          (here, ap (slice_get (g ∷ gs)) zero_left ∙ sym (ap (λ b. cond b (Some g) (group_at gs id)) e))
      | false ↦ λ e. further g gs id i e _ (from gs id (i + 1))
    ] refl

settled : (gs : List Known) (id : Id) (r : Option ℕ) → IsFrom gs id 0 r → MatchOption r (group_at gs id ≡ None) (λ n. slice_get gs n ≡ group_at gs id)
settled gs id None h = h
settled gs id (Some n) h = let e : n - 0 ≡ n = omega arith in ap (slice_get gs) (sym e) ∙ h.1

-- the group of that number is the one that is found by its id
pub numbered : (gs : List Known) (id : Id)
    → MatchOption (group_number gs id) (group_at gs id ≡ None)
    (λ n. slice_get gs n ≡ group_at gs id)
numbered gs id =
    settled gs id _ (subst (IsFrom gs id 0) (sym (position_is (λ (g : Known). same_id g.id id) gs)) (from gs id 0))

none_kept : (e : Id × GroupValue) (b c : Bool) (o : Option Known) (p : Option GroupValue) → b ≡ c → (o ≡ None → p ≡ None) → cond b (Some (known e)) o ≡ None → cond c (Some e.1) p ≡ None
none_kept e true true o p same rest h = cc
none_kept e false false o p same rest h = rest h
none_kept e true false o p same rest h = cc
none_kept e false true o p same rest h = cc

-- an id of no group is not kept
pub not_kept : (id : Id) (es : List (Id × GroupValue)) → group_at (map known es) id ≡ None → lookup (same_id id) es ≡ None
not_kept id [] h = refl
not_kept id (e ∷ es) h = none_kept e _ _ (group_at (map known es) id) (lookup (same_id id) es) (id_swap e.0 id) (not_kept id es) h
