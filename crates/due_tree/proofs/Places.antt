-- The first place that passes a test: the first due place, from what a search of the cells has found.
use Rattle.std.proofs.Common.{◌≡◌, ℕ, ◌+◌, ◌-◌, ◌*◌, ◌<◌, ◌≤◌, Bool, true, false, cond, List, [], ◌∷◌, ◌++◌, replicate, length, drop, Option, None, Some, refl, sym, ap, subst, ◌∙◌, get_or, arith, zero, suc, length-drop, inl, inr}
use Rattle.std.proofs.lemmas.List.{get_or-drop, get_or_past}
use Rattle.std.proofs.lemmas.Bool.{cases_lt, true≢false}
use Rattle.std.specs.List.{position_from}
use Rattle.due_tree.specs.Due.{is_due, next_due}
use Rattle.due_tree.specs.Cells.{at, IsClear}

-- the first element that passes is the position
pub position_found : {X : Type 0} (p : X → Bool) (xs : List X) (i n : ℕ) (d : X) → n < length xs → ((k : ℕ) → k < n → p (get_or xs k d) ≡ false) → p (get_or xs n d) ≡ true → position_from p i xs ≡ Some (i + n)
position_found p [] i n d within before here = absurd (omega arith)
position_found p (x ∷ xs) i zero d within before here = ap (λ b. cond b (Some i) (position_from p (i + 1) xs)) here ∙ ap Some (omega arith)
position_found p (x ∷ xs) i (suc n) d within before here =
    ap (λ b. cond b (Some i) (position_from p (i + 1) xs)) (before 0 (omega arith))
    ∙ position_found p xs (i + 1) n d (omega arith) (λ k h. before (suc k) (omega arith)) here ∙ ap Some (omega arith)

-- where none passes there is no position
pub position_none : {X : Type 0} (p : X → Bool) (xs : List X) (i : ℕ) (d : X) → ((k : ℕ) → k < length xs → p (get_or xs k d) ≡ false) → position_from p i xs ≡ None
position_none p [] i d none = refl
position_none p (x ∷ xs) i d none =
    ap (λ b. cond b (Some i) (position_from p (i + 1) xs)) (none 0 (omega arith))
    ∙ position_none p xs (i + 1) d (λ k h. none (suc k) (omega arith))

-- the position is of the first element that passes
pub record IsFirst {X : Type 0} (p : X → Bool) (xs : List X) (i n : ℕ) (d : X) : Type 0 where
  pub low : i ≤ n
  pub within : n < i + length xs
  pub here : p (get_or xs (n - i) d) ≡ true
  pub before : (k : ℕ) → k < n - i → p (get_or xs k d) ≡ false

first_here : {X : Type 0} (p : X → Bool) (x : X) (xs : List X) (n : ℕ) (d : X) → p x ≡ true → IsFirst p (x ∷ xs) n n d
first_here p x xs n d e =
    let none : 0 ≡ n - n = omega arith in
    record {
      low = omega arith;
      within = omega arith;
      here = subst (λ k. p (get_or (x ∷ xs) k d) ≡ true) none e;
      before = λ k h. absurd (omega arith);
    }

first_later : {X : Type 0} (p : X → Bool) (x : X) (xs : List X) (i n : ℕ) (d : X) → p x ≡ false → IsFirst p xs (i + 1) n d → IsFirst p (x ∷ xs) i n d
first_later p x xs i n d e r =
    let low : i + 1 ≤ n = r.low in
    let one : suc (n - (i + 1)) ≡ n - i = omega arith in
    record {
      low = omega arith;
      within = omega (arith, r.within);
      here = subst (λ k. p (get_or (x ∷ xs) k d) ≡ true) one r.here;
      before = none_before;
    }
  where
    none_before : (k : ℕ) → k < n - i → p (get_or (x ∷ xs) k d) ≡ false
    none_before zero h = e
    none_before (suc k) h = r.before k (omega arith)

pub position_is : {X : Type 0} (p : X → Bool) (xs : List X) (i n : ℕ) (d : X) → position_from p i xs ≡ Some n → IsFirst p xs i n d
position_is p [] i n d h = cc
position_is p (x ∷ xs) i n d h =
    elim (p x) as (λ b. p x ≡ b → cond b (Some i) (position_from p (i + 1) xs) ≡ Some n → IsFirst p (x ∷ xs) i n d) [
      | true ↦ λ e same. let is : i ≡ n = cc in subst (λ k. IsFirst p (x ∷ xs) k n d) (sym is) (first_here p x xs n d e)
      | false ↦ λ e found. first_later p x xs i n d e (position_is p xs (i + 1) n d found)
    ] refl h

-- where there is no position none passes, nor what is past the end
pub position_isnt : {X : Type 0} (p : X → Bool) (xs : List X) (i : ℕ) (d : X) → p d ≡ false → position_from p i xs ≡ None → (k : ℕ) → p (get_or xs k d) ≡ false
position_isnt p [] i d past h k = past
position_isnt p (x ∷ xs) i d past h k =
    elim (p x) as (λ b. p x ≡ b → cond b (Some i) (position_from p (i + 1) xs) ≡ None → p (get_or (x ∷ xs) k d) ≡ false) [
      | true ↦ λ e found. cc
      | false ↦ λ e none. not_at k e (position_isnt p xs (i + 1) d past none)
    ] refl h
  where
    not_at : (k : ℕ) → p x ≡ false → ((m : ℕ) → p (get_or xs m d) ≡ false) → p (get_or (x ∷ xs) k d) ≡ false
    not_at zero e behind = e
    not_at (suc k) e behind = behind k

-- what is past the end of a list may be added to it
replicate_at : {X : Type 0} (more n : ℕ) (d : X) → get_or (replicate more d) n d ≡ d
replicate_at zero n d = refl
replicate_at (suc more) zero d = refl
replicate_at (suc more) (suc n) d = replicate_at more n d

pub longer_at : {X : Type 0} (xs : List X) (more n : ℕ) (d : X) → get_or (xs ++ replicate more d) n d ≡ get_or xs n d
longer_at [] more n d = replicate_at more n d
longer_at (x ∷ xs) more zero d = refl
longer_at (x ∷ xs) more (suc n) d = longer_at xs more n d

module _ (bound leaves from : ℕ) (cells : List (Option ℕ)) where
  there : (k : ℕ) → get_or (drop from (drop leaves cells)) k None ≡ at cells (leaves + (from + k))
  there k = get_or-drop from (drop leaves cells) k None ∙ get_or-drop leaves cells (from + k) None

  many : length (drop from (drop leaves cells)) ≡ length cells - leaves - from
  many = length-drop from (drop leaves cells) ∙ ap (λ n. n - from) (length-drop leaves cells)

  -- the cell that was found
  pub next_found : (cell : ℕ) → leaves + from ≤ cell → is_due bound (at cells cell) ≡ true → IsClear bound cells (leaves + from) cell → Some (cell - leaves) ≡ next_due from bound (drop leaves cells)
  next_found cell low due clear =
      let n = cell - leaves - from in
      let is : leaves + (from + n) ≡ cell = omega arith in
      let within : cell < length cells = elim (cases_lt cell (length cells)) [
        | inl l ↦ l
        | inr past ↦ absurd (true≢false (sym due ∙ ap (λ o. is_due bound o) (get_or_past cells cell None past)))
      ] in
      sym (position_found (λ o. is_due bound o) (drop from (drop leaves cells)) from n None (omega (arith, many))
      (λ k h. ap (λ o. is_due bound o) (there k) ∙ clear (leaves + (from + k)) (omega arith) (omega arith))
      (ap (λ o. is_due bound o) (there n) ∙ subst (λ c. is_due bound (at cells c) ≡ true) (sym is) due)
      ∙ ap Some (omega arith))

  -- no cell was found
  pub next_none : IsClear bound cells (leaves + from) (2 * leaves) → length cells ≤ 2 * leaves → None ≡ next_due from bound (drop leaves cells)
  next_none clear ended =
      sym (position_none (λ o. is_due bound o) (drop from (drop leaves cells)) from None
      (λ k h. ap (λ o. is_due bound o) (there k) ∙ clear (leaves + (from + k)) (omega arith) (omega (arith, many))))
