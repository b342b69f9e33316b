-- Two walks of the same items are one, and an item stands behind what it replies to.
use Rattle.std.proofs.Common.{◌≡◌, ◌⊎◌, ℕ, zero, suc, ◌<◌, ◌≤◌, true, false, List, [], ◌∷◌, ◌++◌, length, Option, None, Some, get_or, sym, ap, ◌∙◌, subst, inl, inr, arith}
use Rattle.std.specs.List.{Contains}
use Rattle.std.proofs.lemmas.List.{get_or_default, same_lists}
use Rattle.std.proofs.lemmas.Bool.{cases_lt, cases_eq}
use Rattle.reply_tree.specs.Walks.{path_above, paths, path_of, is_before, IsWalk, HasOneWalk, HasParentsFirst}
use Rattle.reply_tree.proofs.PathLaws.{before-same, before-once, before-push, begins-same}
use Rattle.reply_tree.proofs.Paths.{path_is, path_below}

-- where an item stands in a list that has it
place_in : (xs : List ℕ) (n : ℕ) → Contains xs n → (k : ℕ) × (k < length xs) × (get_or xs k 0 ≡ n)
place_in xs n c = (c.0, c.1, get_or_default xs c.0 0 n c.1 ∙ c.2)

has_at : (xs : List ℕ) (k : ℕ) → k < length xs → Contains xs (get_or xs k 0)
has_at xs k h = (k, h, get_or_default xs k (get_or xs k 0) 0 h)

-- two walks are the same up to a place: then the item there is the same, for else each of the two would stand before the other
module _ (ps : List (Option ℕ)) where
  -- the item of `other` at place k stands in `one` at k or behind it
  not_early : (one other : List ℕ) (k j : ℕ) → IsWalk ps other → ((i : ℕ) → i < k → get_or one i 0 ≡ get_or other i 0) → k < length other → j < k → get_or one j 0 ≡ get_or other k 0 → ⊥
  not_early one other k j w same h lt e =
      let b : is_before (path_of ps (get_or other j 0)) (path_of ps (get_or other k 0)) ≡ true = w.ascends j k lt h in
      let f : get_or other j 0 ≡ get_or other k 0 = sym (same j lt) ∙ e in
      let c : is_before (path_of ps (get_or other k 0)) (path_of ps (get_or other k 0)) ≡ true = subst (λ (n : ℕ). is_before (path_of ps n) (path_of ps (get_or other k 0)) ≡ true) f b in
      let d : true ≡ false = sym c ∙ before-same (path_of ps (get_or other k 0)) in
      cc

  -- it is the one there, or one that stands behind the one there
  at_or_behind : (one other : List ℕ) (k : ℕ) → IsWalk ps one → IsWalk ps other → ((i : ℕ) → i < k → get_or one i 0 ≡ get_or other i 0) → k < length one → k < length other
      → (get_or one k 0 ≡ get_or other k 0) ⊎ (is_before (path_of ps (get_or one k 0)) (path_of ps (get_or other k 0)) ≡ true)
  at_or_behind one other k v w same h g =
      let n = get_or other k 0 in
      let item : n < length ps = (w.items n).1 (has_at other k g) in
      let p = place_in one n ((v.items n).0 item) in
      elim (cases_lt p.0 k) [
        | inl early ↦ absurd (not_early one other k p.0 w same g early p.2)
        | inr late ↦ elim (cases_eq p.0 k) [
          | inl here ↦ inl (sym (ap (λ (i : ℕ). get_or one i 0) here) ∙ p.2)
          | inr apart ↦ inr (subst (λ (m : ℕ). is_before (path_of ps (get_or one k 0)) (path_of ps m) ≡ true) p.2 (v.ascends k p.0 (omega (arith, late, apart)) p.1))
        ]
      ]

  same_at : (one other : List ℕ) (k : ℕ) → IsWalk ps one → IsWalk ps other → ((i : ℕ) → i < k → get_or one i 0 ≡ get_or other i 0) → k < length one → k < length other → get_or one k 0 ≡ get_or other k 0
  same_at one other k v w same h g =
      elim (at_or_behind one other k v w same h g) [
        | inl here ↦ here
        | inr first ↦ elim (at_or_behind other one k w v (λ i lt. sym (same i lt)) g h) [
          | inl here ↦ sym here
          | inr second ↦ absurd (before-once (path_of ps (get_or one k 0)) (path_of ps (get_or other k 0)) first second)
        ]
      ]

  same_below : (one other : List ℕ) (n : ℕ) → IsWalk ps one → IsWalk ps other → n ≤ length one → n ≤ length other → (i : ℕ) → i < n → get_or one i 0 ≡ get_or other i 0
  same_below one other zero v w h g i lt = absurd (omega arith)
  same_below one other (suc n) v w h g i lt =
      let below = same_below one other n v w (omega (arith, h)) (omega (arith, g)) in
      elim (cases_lt i n) [
        | inl less ↦ below i less
        | inr more ↦ let here : i ≡ n = omega (arith, lt, more) in
            subst (λ (k : ℕ). get_or one k 0 ≡ get_or other k 0) (sym here) (same_at one other n v w below (omega (arith, h)) (omega (arith, g)))
      ]

  -- no walk is longer than another
  no_longer : (one other : List ℕ) → IsWalk ps one → IsWalk ps other → length one ≤ length other
  no_longer one other v w =
      elim (cases_lt (length other) (length one)) [
        | inr less ↦ less
        | inl more ↦
            let k = length other in
            let n = get_or one k 0 in
            let item : n < length ps = (v.items n).1 (has_at one k more) in
            let p = place_in other n ((w.items n).0 item) in
            absurd (not_early other one k p.0 v (λ i lt. sym (same_below one other k v w (omega (arith, more)) (omega arith) i lt)) more p.1 p.2)
      ]

  pub one_walk : (one other : List ℕ) → IsWalk ps one → IsWalk ps other → one ≡ other
  one_walk one other v w =
      let a = no_longer one other v w in
      let b = no_longer other one w v in
      same_lists one other (omega (arith, a, b)) (λ k d h.
      get_or_default one k d 0 h ∙ same_below one other (length one) v w (omega arith) (omega (arith, a, b)) k h ∙ get_or_default other k 0 d (omega (arith, h, a, b)))

pub has_one_walk : HasOneWalk
has_one_walk ps one other v w = one_walk ps one other v w

-- what an item replies to stands before it
pub has_parents_first : HasParentsFirst
has_parents_first ps walk old w i j h g e =
    let m = get_or walk i 0 in
    let n = get_or walk j 0 in
    let parent : get_or ps n None ≡ Some m = e in
    let item : n < length ps = (w.items n).1 (has_at walk j g) in
    let less : m < n = old n m parent in
    let up : path_of ps n ≡ path_of ps m ++ n ∷ [] = path_is ps n old item ∙ ap (λ (o : Option ℕ). path_above (paths ps) o ++ n ∷ []) parent in
    let first : is_before (path_of ps m) (path_of ps n) ≡ true =
    subst (λ (x : List ℕ). is_before (path_of ps m) x ≡ true) (sym up) (before-push (path_of ps m) (path_of ps m) n (begins-same (path_of ps m)) (path_below ps m n old (omega (arith, less, item)) less)) in
    elim (cases_lt i j) [
      | inl lt ↦ lt
      | inr ge ↦ elim (cases_eq i j) [
        | inl same ↦ absurd (let s : m ≡ n = ap (λ (k : ℕ). get_or walk k 0) same in omega (arith, s, less))
        | inr apart ↦ absurd (before-once (path_of ps m) (path_of ps n) first (w.ascends j i (omega (arith, ge, apart)) h))
      ]
    ]
