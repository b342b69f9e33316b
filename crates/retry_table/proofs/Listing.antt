-- Listing the numbers of those that pass a test, by one search after another.
use Rattle.std.proofs.Common.{◌≡◌, ℕ, suc, ◌+◌, ◌-◌, ◌<◌, ◌≤◌, Bool, true, false, cond, List, [], ◌∷◌, ◌++◌, length, Option, None, Some, IfSome, refl, sym, ap, subst, ◌∙◌, take, drop, arith, append_assoc, length-drop}
use Rattle.std.proofs.lemmas.List.{drop-drop, append-nil}
use Rattle.std.proofs.Math.Seq.{take-nil}
use Rattle.std.specs.List.{position_from}
use Rattle.retry_table.specs.Due.{numbers_where}

module _ {X : Type 0} (p : X → Bool) where
  -- the first number that passes is the first of the list, and the rest begins behind it
  pub record IsNext (first : ℕ) (xs : List X) (n : ℕ) : Type 0 where
    pub low : first ≤ n
    pub high : n < first + length xs
    pub rest : numbers_where p first xs ≡ n ∷ numbers_where p (n + 1) (drop (n + 1 - first) xs)

  next_here : (x : X) (xs : List X) (n : ℕ) → p x ≡ true → IsNext n (x ∷ xs) n
  next_here x xs n e =
      let one : n + 1 - n ≡ 1 = omega arith in
      record {
        low = omega arith;
        high = omega arith;
        rest = ap (λ b. cond b (n ∷ numbers_where p (n + 1) xs) (numbers_where p (n + 1) xs)) e
            ∙ ap (λ k. n ∷ numbers_where p (n + 1) (drop k (x ∷ xs))) (sym one);
      }

  next_later : (x : X) (xs : List X) (first n : ℕ) → p x ≡ false → IsNext (first + 1) xs n → IsNext first (x ∷ xs) n
  next_later x xs first n e r =
      let low : first + 1 ≤ n = r.low in
      let more : suc (n + 1 - (first + 1)) ≡ n + 1 - first = omega arith in
      record {
        low = omega arith;
        high = omega (arith, r.high);
        rest = ap (λ b. cond b (first ∷ numbers_where p (first + 1) xs) (numbers_where p (first + 1) xs)) e ∙ r.rest
            ∙ ap (λ k. n ∷ numbers_where p (n + 1) (drop k (x ∷ xs))) more;
      }

  pub next_is : (xs : List X) (first n : ℕ) → position_from p first xs ≡ Some n → IsNext first xs n
  next_is [] first n h = cc
  next_is (x ∷ xs) first n h =
      elim (p x) as (λ b. p x ≡ b → cond b (Some first) (position_from p (first + 1) xs) ≡ Some n → IsNext first (x ∷ xs) n) [
        | true ↦ λ e same. let is : first ≡ n = cc in subst (λ k. IsNext k (x ∷ xs) n) (sym is) (next_here x xs n e)
        | false ↦ λ e found. next_later x xs first n e (next_is xs (first + 1) n found)
      ] refl h

  -- what is found from a number on is within the list
  pub within_small : (xs : List X) (from most : ℕ) (o : Option ℕ) → o ≡ position_from p from (drop from xs) → length xs ≤ most → IfSome o (λ n. n < most)
  within_small xs from most None is few = tt
  within_small xs from most (Some n) is few =
      let r = next_is (drop from xs) from n (sym is) in omega (arith, r.low, r.high, length-drop from xs, few)

  -- where none passes, there are no numbers
  pub no_next : (xs : List X) (first : ℕ) → position_from p first xs ≡ None → numbers_where p first xs ≡ []
  no_next [] first h = refl
  no_next (x ∷ xs) first h =
      elim (p x) as (λ b. cond b (Some first) (position_from p (first + 1) xs) ≡ None → cond b (first ∷ numbers_where p (first + 1) xs) (numbers_where p (first + 1) xs) ≡ []) [
        | true ↦ λ found. cc
        | false ↦ λ none. no_next xs (first + 1) none
      ] h

  -- so many numbers were found before `from`, of which at most `limit` are wanted
  pub record AreFound (xs : List X) (limit : ℕ) (found : List ℕ) (from count : ℕ) : Type 0 where
    pub so_far : found ++ take (limit - count) (numbers_where p from (drop from xs)) ≡ take limit (numbers_where p 0 xs)

  pub found_first : (xs : List X) (limit : ℕ) → AreFound xs limit [] 0 0
  found_first xs limit = let all : limit - 0 ≡ limit = omega arith in record { so_far = ap (λ k. take k (numbers_where p 0 xs)) all }

  module _ (xs : List X) (limit : ℕ) (found : List ℕ) (from count : ℕ) (f : AreFound xs limit found from count) where
    pub found_within : (n : ℕ) → position_from p from (drop from xs) ≡ Some n → n < length xs
    found_within n h = let r = next_is (drop from xs) from n h in omega (arith, r.low, r.high, length-drop from xs)

    pub found_more : (n : ℕ) → count < limit → position_from p from (drop from xs) ≡ Some n → AreFound xs limit (found ++ n ∷ []) (n + 1) (count + 1)
    found_more n below h =
        let r = next_is (drop from xs) from n h in
        let low : from ≤ n = r.low in
        let place : from + (n + 1 - from) ≡ n + 1 = omega arith in
        let behind : drop (n + 1 - from) (drop from xs) ≡ drop (n + 1) xs = drop-drop (n + 1 - from) from xs ∙ ap (λ k. drop k xs) place in
        let all : numbers_where p from (drop from xs) ≡ n ∷ numbers_where p (n + 1) (drop (n + 1) xs) = r.rest ∙ ap (λ ys. n ∷ numbers_where p (n + 1) ys) behind in
        let left : limit - count ≡ suc (limit - (count + 1)) = omega arith in
        record {
          so_far = append_assoc found (n ∷ []) (take (limit - (count + 1)) (numbers_where p (n + 1) (drop (n + 1) xs)))
              ∙ (λ i. found ++ take (sym left i) (sym all i)) ∙ f.so_far;
        }

    pub found_none : position_from p from (drop from xs) ≡ None → found ≡ take limit (numbers_where p 0 xs)
    found_none h =
        sym (append-nil found) ∙ ap (λ ns. found ++ ns) (sym (take-nil (limit - count)))
        ∙ ap (λ ns. found ++ take (limit - count) ns) (sym (no_next (drop from xs) from h)) ∙ f.so_far

    pub found_all : limit ≤ count → found ≡ take limit (numbers_where p 0 xs)
    found_all h =
        let none : 0 ≡ limit - count = omega arith in
        sym (append-nil found) ∙ ap (λ k. found ++ take k (numbers_where p from (drop from xs))) none ∙ f.so_far
