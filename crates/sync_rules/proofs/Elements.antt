-- Facts on lists, tests of lists, ids and counts that all later proofs use.
use Rattle.std.proofs.Common.{◌≡◌, ℕ, ◌+◌, ◌≤◌, Bool, true, false, cond, ◌||◌, ◌⊎◌, List, [], ◌∷◌, ◌++◌, length, refl, sym, ◌∙◌, ap, subst, inl, inr, arith, count_by}
use Rattle.std.specs.List.{list_any, list_all}
use Rattle.std.specs.Cmp.Lexicographic.{bytes_decides, nat_list_eq_equiv}
use Rattle.std.proofs.lemmas.Bool.{and_parts, and_from, or_cases, or_left, or_right, or_parts, false≢true}
use Rattle.std.proofs.lemmas.List.Recursion.{is_count_by}
use Rattle.sync_rules.specs.Lists.{In, same_id, is_among}

-- ---- ids

pub same_id-is : (a b : List ℕ) → same_id a b ≡ true → a ≡ b
same_id-is a b h = (bytes_decides a b).0 h

pub same_id_itself : (a : List ℕ) → same_id a a ≡ true
same_id_itself a = (bytes_decides a a).1 refl

pub same_id_swap : (a b : List ℕ) → same_id a b ≡ same_id b a
same_id_swap a b = nat_list_eq_equiv.symm a b

-- ---- an element of a list

module _ {A : Type 0} where
  pub In-append_left : (x : A) (xs ys : List A) → In x xs → In x (xs ++ ys)
  In-append_left x [] ys h = absurd h
  In-append_left x (y ∷ xs) ys h = elim h [ inl e ↦ inl e | inr t ↦ inr (In-append_left x xs ys t) ]

  pub In-append_right : (x : A) (xs ys : List A) → In x ys → In x (xs ++ ys)
  In-append_right x [] ys h = h
  In-append_right x (y ∷ xs) ys h = inr (In-append_right x xs ys h)

  pub In-append_cases : (x : A) (xs ys : List A) → In x (xs ++ ys) → In x xs ⊎ In x ys
  In-append_cases x [] ys h = inr h
  In-append_cases x (y ∷ xs) ys h =
      elim h [
        | inl e ↦ inl (inl e)
        | inr t ↦ elim (In-append_cases x xs ys t) [ inl a ↦ inl (inr a) | inr b ↦ inr b ]
      ]

  pub In-push_cases : (x y : A) (xs : List A) → In x (xs ++ y ∷ []) → In x xs ⊎ (x ≡ y)
  In-push_cases x y xs h =
      elim (In-append_cases x xs (y ∷ []) h) [
        | inl a ↦ inl a
        | inr b ↦ elim b [ inl e ↦ inr e | inr none ↦ absurd none ]
      ]

  -- ---- tests of all and of some elements

  pub all_weaker : (p q : A → Bool) → ((x : A) → p x ≡ true → q x ≡ true) → (xs : List A) → list_all p xs ≡ true → list_all q xs ≡ true
  all_weaker p q up [] h = refl
  all_weaker p q up (x ∷ xs) h =
      let both = and_parts (p x) (list_all p xs) h in
      and_from (q x) (list_all q xs) (up x both.0) (all_weaker p q up xs both.1)

  pub any_weaker : (p q : A → Bool) → ((x : A) → p x ≡ true → q x ≡ true) → (xs : List A) → list_any p xs ≡ true → list_any q xs ≡ true
  any_weaker p q up [] h = absurd (false≢true h)
  any_weaker p q up (x ∷ xs) h =
      elim (or_cases (p x) (list_any p xs) h) [
        | inl a ↦ or_left (q x) (list_any q xs) (up x a)
        | inr b ↦ or_right (q x) (list_any q xs) (any_weaker p q up xs b)
      ]

  -- all pass one test and some another, but none passes both
  pub all_not_any : (p q : A → Bool) → ((x : A) → p x ≡ true → q x ≡ true → ⊥) → (xs : List A) → list_all p xs ≡ true → list_any q xs ≡ true → ⊥
  all_not_any p q apart [] a b = false≢true b
  all_not_any p q apart (x ∷ xs) a b =
      let both = and_parts (p x) (list_all p xs) a in
      elim (or_cases (q x) (list_any q xs) b) [
        | inl h ↦ apart x both.0 h
        | inr t ↦ all_not_any p q apart xs both.1 t
      ]

  pub all_at : (p : A → Bool) (xs : List A) → list_all p xs ≡ true → (x : A) → In x xs → p x ≡ true
  all_at p [] a x h = absurd h
  all_at p (y ∷ ys) a x h =
      let both = and_parts (p y) (list_all p ys) a in
      elim h [ inl e ↦ ap p e ∙ both.0 | inr t ↦ all_at p ys both.1 x t ]

  pub none_at : (p : A → Bool) (xs : List A) → list_any p xs ≡ false → (x : A) → In x xs → p x ≡ false
  none_at p [] a x h = absurd h
  none_at p (y ∷ ys) a x h =
      let both = or_parts (p y) (list_any p ys) a in
      elim h [ inl e ↦ ap p e ∙ both.0 | inr t ↦ none_at p ys both.1 x t ]

  pub any-append : (p : A → Bool) (xs ys : List A) → list_any p (xs ++ ys) ≡ (list_any p xs || list_any p ys)
  any-append p [] ys = refl
  any-append p (x ∷ xs) ys = ap (λ b. p x || b) (any-append p xs ys) ∙ regroup (p x) (list_any p xs) (list_any p ys)
    where
      regroup : (a b c : Bool) → (a || (b || c)) ≡ ((a || b) || c)
      regroup true b c = refl
      regroup false b c = refl

  -- ---- counts

  -- how many elements pass
  abbrev pub tally : (A → Bool) → List A → ℕ
  tally p [] = 0
  tally p (x ∷ xs) = cond (p x) (1 + tally p xs) (tally p xs)

  pub tally-is : (p : A → Bool) (xs : List A) → tally p xs ≡ count_by p xs
  tally-is p xs = is_count_by (tally p) p refl (λ _ _. refl) xs

  pub tally_le : (p : A → Bool) (xs : List A) → tally p xs ≤ length xs
  tally_le p [] = omega arith
  tally_le p (x ∷ xs) =
      elim (p x) as (λ b. cond b (1 + tally p xs) (tally p xs) ≤ length (x ∷ xs)) [
        | true ↦ let h = tally_le p xs in omega (arith, h)
        | false ↦ let h = tally_le p xs in omega (arith, h)
      ]

  pub tally_up : (p q : A → Bool) → ((x : A) → p x ≡ true → q x ≡ true) → (xs : List A) → tally p xs ≤ tally q xs
  tally_up p q up [] = omega arith
  tally_up p q up (x ∷ xs) =
      let h = tally_up p q up xs in
      elim (p x) as (λ b. p x ≡ b → cond b (1 + tally p xs) (tally p xs) ≤ tally q (x ∷ xs)) [
        | true ↦ λ e. let P : Bool → Type 0 = λ b. 1 + tally p xs ≤ cond b (1 + tally q xs) (tally q xs) in
            let m : 1 + tally p xs ≤ 1 + tally q xs = omega (arith, h) in
            subst P (sym (up x e)) m
        | false ↦ λ e. elim (q x) as (λ b. tally p xs ≤ cond b (1 + tally q xs) (tally q xs)) [
          | true ↦ omega (arith, h)
          | false ↦ h
        ]
      ] refl

  -- one more element passes
  pub tally_more : (p q : A → Bool) → ((x : A) → p x ≡ true → q x ≡ true) → (xs : List A) (y : A) → In y xs → p y ≡ false → q y ≡ true → 1 + tally p xs ≤ tally q xs
  tally_more p q up [] y h pf qt = absurd h
  tally_more p q up (x ∷ xs) y h pf qt =
      elim h [
        | inl e ↦
            let rest = tally_up p q up xs in
            let px : p x ≡ false = ap p (sym e) ∙ pf in
            let qx : q x ≡ true = ap q (sym e) ∙ qt in
            let P : Bool → Bool → Type 0 = λ a b. 1 + cond a (1 + tally p xs) (tally p xs) ≤ cond b (1 + tally q xs) (tally q xs) in
            let m : P false true = omega (arith, rest) in
            subst (λ a. P a (q x)) (sym px) (subst (λ b. P false b) (sym qx) m)
        | inr t ↦
            let rest = tally_more p q up xs y t pf qt in
            elim (p x) as (λ a. p x ≡ a → 1 + cond a (1 + tally p xs) (tally p xs) ≤ tally q (x ∷ xs)) [
              | true ↦ λ e.
                  let P : Bool → Type 0 = λ b. 1 + (1 + tally p xs) ≤ cond b (1 + tally q xs) (tally q xs) in
                  let m : P true = omega (arith, rest) in
                  subst P (sym (up x e)) m
              | false ↦ λ e. elim (q x) as (λ b. 1 + tally p xs ≤ cond b (1 + tally q xs) (tally q xs)) [
                | true ↦ omega (arith, rest)
                | false ↦ rest
              ]
            ] refl
      ]

  pub tally-append : (p : A → Bool) (xs ys : List A) → tally p (xs ++ ys) ≡ tally p xs + tally p ys
  tally-append p [] ys = omega arith
  tally-append p (x ∷ xs) ys =
      let h = tally-append p xs ys in
      elim (p x) as (λ b. cond b (1 + tally p (xs ++ ys)) (tally p (xs ++ ys)) ≡ cond b (1 + tally p xs) (tally p xs) + tally p ys) [
        | true ↦ omega (arith, h)
        | false ↦ h
      ]

pub among-push : (ids : List (List ℕ)) (x id : List ℕ) → is_among (ids ++ x ∷ []) id ≡ (same_id x id || is_among ids id)
among-push ids x id = any-append (λ y. same_id y id) ids (x ∷ []) ∙ swap_or (is_among ids id) (same_id x id)
  where
    swap_or : (a b : Bool) → (a || (b || false)) ≡ (b || a)
    swap_or true true = refl
    swap_or true false = refl
    swap_or false true = refl
    swap_or false false = refl
