-- A loop that changes each element of a list in its place.
use Rattle.std.proofs.Common.{◌≡◌, ℕ, zero, suc, ◌+◌, ◌<◌, Bool, ◌||◌, List, [], ◌∷◌, ◌++◌, map}
use Rattle.std.proofs.Common.{length, get_or, take, drop, sym, ◌∙◌, ap, subst, arith}
use Rattle.std.specs.Prelude.{slice_set}
use Rattle.std.specs.List.{list_any}
use Rattle.std.proofs.lemmas.List.Edits.{map_over_more}
use Rattle.std.proofs.lemmas.List.Folds.{list_any_more}

module _ {A : Type 0} (f : A → A) where
  was_there : (xs : List A) (i : ℕ) (x : A) → i < length xs → x ≡ get_or
      (map f (take i xs) ++ drop i xs) i x → x ≡ get_or xs i x
  was_there [] i x within is = absurd (omega arith)
  was_there (y ∷ xs) zero x within is = is
  was_there (y ∷ xs) (suc i) x within is = was_there xs i x (omega (arith, within)) is

  -- one element more became what it becomes
  pub one_more : (xs ys : List A) (i : ℕ) (x new : A) → i < length xs → ys ≡ map f
      (take i xs) ++ drop i xs → x ≡ get_or ys i x → new ≡ f (get_or ys i x)
      → slice_set ys i new ≡ map f (take (i + 1) xs) ++ drop (i + 1) xs
  one_more xs ys i x new within so_far is made =
      ap (λ (z : A). slice_set ys i z) (made ∙ ap f (sym is))
      ∙ map_over_more f xs ys i x within so_far is

  -- and whether one so far passed a test
  pub one_more_test : (p : A → Bool) (xs ys : List A) (i : ℕ) (x : A) (some more : Bool)
      → i < length xs → ys ≡ map f (take i xs) ++ drop i xs → x ≡ get_or ys i x
      → some ≡ list_any p (take i xs) → more ≡ p (get_or ys i x)
      → (some || more) ≡ list_any p (take (i + 1) xs)
  one_more_test p xs ys i x some more within so_far is before new =
      let was : x ≡ get_or xs i x =
      was_there xs i x within (subst (λ (l : List A). x ≡ get_or l i x) so_far is) in
      let same : more ≡ p (get_or xs i x) = new ∙ (ap p (sym is) ∙ ap p was) in
      (λ k. before k || same k) ∙ sym (list_any_more p xs i x within)
