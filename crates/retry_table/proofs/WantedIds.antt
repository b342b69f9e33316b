-- The ids of a set, as lists of ids.
use Rattle.std.proofs.Common.{◌≡◌, ℕ, Bool, true, false, cond, ◌||◌, nat_eq, List, [], ◌∷◌, refl, sym, ap}
use Rattle.std.specs.List.{list_any}
use Rattle.std.specs.Set.{remove_key}
use Rattle.std.specs.Cmp.Lexicographic.{pointwise}
use Rattle.std.proofs.lemmas.Cmp.{nat_list_eq_equiv}
use Rattle.sync_rules.specs.Lists.{same_id, is_among, without}

-- a set asks whether the id is one of its keys
pub among_is : (ids : List (List ℕ)) (id : List ℕ) → list_any (pointwise nat_eq id) ids ≡ is_among ids id
among_is [] id = refl
among_is (x ∷ xs) id = (λ i. nat_list_eq_equiv.symm id x i || among_is xs id i)

-- an id that is not there is not taken out
pub without_absent : (ids : List (List ℕ)) (id : List ℕ) → is_among ids id ≡ false → without id ids ≡ ids
without_absent [] id h = refl
without_absent (x ∷ xs) id h =
    elim (same_id x id) as (λ b. (b || is_among xs id) ≡ false → cond b (without id xs) (x ∷ without id xs) ≡ x ∷ xs) [
      | true ↦ λ there. cc
      | false ↦ λ absent. ap (λ ids. x ∷ ids) (without_absent xs id absent)
    ] h

-- where none is left after the first was taken out, all were
pub removed_is : (ids : List (List ℕ)) (id : List ℕ) → is_among (remove_key (pointwise nat_eq id) ids) id ≡ false → remove_key (pointwise nat_eq id) ids ≡ without id ids
removed_is [] id h = refl
removed_is (x ∷ xs) id h =
    by (pointwise nat_eq id x) (same_id x id) (nat_list_eq_equiv.symm id x) (λ absent. removed_is xs id absent) h
  where
    by : (a b : Bool) → a ≡ b → (is_among (remove_key (pointwise nat_eq id) xs) id ≡ false → remove_key (pointwise nat_eq id) xs ≡ without id xs)
        → is_among (cond a xs (x ∷ remove_key (pointwise nat_eq id) xs)) id ≡ false → cond a xs (x ∷ remove_key (pointwise nat_eq id) xs) ≡ cond b (without id xs) (x ∷ without id xs)
    by true true e rest k = sym (without_absent xs id k)
    by true false e rest k = cc
    by false true e rest k = cc
    by false false e rest k = ap (λ ids. x ∷ ids) (rest (behind k))
      where
        behind : (same_id x id || is_among (remove_key (pointwise nat_eq id) xs) id) ≡ false → is_among (remove_key (pointwise nat_eq id) xs) id ≡ false
        behind = elim (same_id x id) as (λ b. (b || is_among (remove_key (pointwise nat_eq id) xs) id) ≡ false → is_among (remove_key (pointwise nat_eq id) xs) id ≡ false) [
          | true ↦ λ there. cc
          | false ↦ λ absent. absent
        ]
