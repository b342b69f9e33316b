-- The place of the first element that passes a test, by recursion.
use Rattle.std.proofs.Common.{◌≡◌, ℕ, zero, suc, ◌<◌, Bool, true, false, ◌||◌, cond, ltb, List, [], ◌∷◌, ◌++◌, length, Option, None, Some, position, refl, sym, ap, subst, ◌∙◌, get_or, arith, true≢false}
use Rattle.std.specs.Option.{option_map}
use Rattle.std.specs.List.{list_any}
use Rattle.std.proofs.lemmas.List.Sums.{position_or_len_is}
use Rattle.std.proofs.lemmas.Bool.{cond_below, cond_above}

abbrev pub place : {X : Type 0} → (X → Bool) → List X → Option ℕ
place p [] = None
place p (x ∷ xs) = cond (p x) (Some 0) (option_map suc (place p xs))

-- what a place tells
abbrev pub Tells : {X : Type 0} → (X → Bool) → List X → Option ℕ → Type 0
Tells {X} p xs None = (k : ℕ) (d : X) → k < length xs → p (get_or xs k d) ≡ false
Tells {X} p xs (Some i) = (i < length xs) × ((d : X) → p (get_or xs i d) ≡ true) × ((k : ℕ) (d : X) → k < i → p (get_or xs k d) ≡ false)

module _ {X : Type 0} (p : X → Bool) where
  tells_more : (x : X) (xs : List X) (o : Option ℕ) → p x ≡ false → Tells p xs o → Tells p (x ∷ xs) (option_map suc o)
  tells_more x xs None fails h = λ k d l. at k d l
    where
      at : (k : ℕ) (d : X) → k < length (x ∷ xs) → p (get_or (x ∷ xs) k d) ≡ false
      at zero d l = fails
      at (suc k) d l = h k d (omega arith)
  tells_more x xs (Some i) fails h = (omega (arith, h.0), h.1, λ k d l. at k d l)
    where
      at : (k : ℕ) (d : X) → k < suc i → p (get_or (x ∷ xs) k d) ≡ false
      at zero d l = fails
      at (suc k) d l = h.2 k d (omega arith)

  pub place_tells : (xs : List X) → Tells p xs (place p xs)
  place_tells [] = λ k d l. absurd (omega arith)
  place_tells (x ∷ xs) =
      elim (p x) as (λ b. p x ≡ b → Tells p (x ∷ xs) (cond b (Some 0) (option_map suc (place p xs)))) [
        | true ↦ λ e. (omega arith, λ d. e, λ k d l. absurd (omega arith))
        | false ↦ λ e. tells_more x xs (place p xs) e (place_tells xs)
      ] refl

  -- `position` is this
  pub position-place : (xs : List X) → position p xs ≡ place p xs
  position-place [] = refl
  position-place (x ∷ xs) = by (place p (x ∷ xs)) (place_tells (x ∷ xs))
    where
      by : (o : Option ℕ) → Tells p (x ∷ xs) o → position p (x ∷ xs) ≡ o
      by None h =
          ap (λ n. cond (ltb n (length (x ∷ xs))) (Some n) None) (position_or_len_is p (x ∷ xs) (length (x ∷ xs)) x (omega arith) (λ k l. h k x l) (λ l. absurd (omega arith)))
          ∙ sym (cond_above (length (x ∷ xs)) (length (x ∷ xs)) (Some (length (x ∷ xs))) None None (omega arith) refl)
      by (Some i) h =
          ap (λ n. cond (ltb n (length (x ∷ xs))) (Some n) None) (position_or_len_is p (x ∷ xs) i x (omega (arith, h.0)) (λ k l. h.2 k x l) (λ l. h.1 x))
          ∙ sym (cond_below i (length (x ∷ xs)) (Some i) None h.0)

  pub position_tells : (xs : List X) → Tells p xs (position p xs)
  position_tells xs = subst (Tells p xs) (sym (position-place xs)) (place_tells xs)

  -- what the place is once y is pushed
  abbrev pub place_pushed : List X → X → Option ℕ → Option ℕ
  place_pushed xs y None = cond (p y) (Some (length xs)) None
  place_pushed xs y (Some i) = Some i

  pushed_more : (x : X) (xs : List X) (y : X) (o : Option ℕ) → option_map suc (place_pushed xs y o) ≡ place_pushed (x ∷ xs) y (option_map suc o)
  pushed_more x xs y None = elim (p y) as (λ b. option_map suc (cond b (Some (length xs)) None) ≡ cond b (Some (suc (length xs))) None) [ true ↦ refl | false ↦ refl ]
  pushed_more x xs y (Some i) = refl

  place-push : (xs : List X) (y : X) → place p (xs ++ y ∷ []) ≡ place_pushed xs y (place p xs)
  place-push [] y = refl
  place-push (x ∷ xs) y =
      elim (p x) as (λ b. cond b (Some 0) (option_map suc (place p (xs ++ y ∷ []))) ≡ place_pushed (x ∷ xs) y (cond b (Some 0) (option_map suc (place p xs)))) [
        | true ↦ refl
        | false ↦ ap (option_map suc) (place-push xs y) ∙ pushed_more x xs y (place p xs)
      ]

  pub position-push : (xs : List X) (y : X) → position p (xs ++ y ∷ []) ≡ place_pushed xs y (position p xs)
  position-push xs y = position-place (xs ++ y ∷ []) ∙ place-push xs y ∙ ap (place_pushed xs y) (sym (position-place xs))

  -- where there is no place, no element passes
  pub none_passes : (xs : List X) → position p xs ≡ None → list_any p xs ≡ false
  none_passes xs h = by xs (subst (Tells p xs) h (position_tells xs))
    where
      by : (ys : List X) → Tells p ys None → list_any p ys ≡ false
      by [] t = refl
      by (y ∷ ys) t = (λ i. t 0 y (omega arith) i || by ys (λ k d l. t (suc k) d (omega arith)) i)

  -- where no element passes, there is no place
  pub passes_none : (xs : List X) → list_any p xs ≡ false → position p xs ≡ None
  passes_none xs h = position-place xs ∙ by xs h
    where
      by : (ys : List X) → list_any p ys ≡ false → place p ys ≡ None
      by [] t = refl
      by (y ∷ ys) t =
          elim (p y) as (λ b. (b || list_any p ys) ≡ false → cond b (Some 0) (option_map suc (place p ys)) ≡ None) [
            | true ↦ λ no. absurd (true≢false no)
            | false ↦ λ no. ap (option_map suc) (by ys no)
          ] t
