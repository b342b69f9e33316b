-- How many of some lists have a property, where another one splits it.
use Rattle.std.proofs.Common.{◌≡◌, ℕ, zero, suc, ◌+◌, ◌<◌, ◌≤◌, ◌||◌, Bool, true, false}
use Rattle.std.proofs.Common.{cond, List, [], ◌∷◌, length, get_or, refl, sym, ap, ◌∙◌, arith}
use Rattle.std.specs.List.{filter}

-- how many of them there are
abbrev pub count : (List ℕ → Bool) → List (List ℕ) → ℕ
count f xs = length (filter f xs)

-- the first holds where one of the others does, and these exclude each other
pub record Splits (a b c : Bool) : Type 0 where
  pub either : a ≡ (b || c)
  pub apart : b ≡ true → c ≡ false

pub count_split : (f g h : List ℕ → Bool) (xs : List (List ℕ))
    → ((k : ℕ) → k < length xs → Splits (f (get_or xs k [])) (g (get_or xs k [])) (h (get_or xs k [])))
    → count f xs ≡ count g xs + count h xs
count_split f g h [] s = refl
count_split f g h (x ∷ xs) s =
    let here : Splits (f x) (g x) (h x) = s 0 (omega arith) in
    let rest : count f xs ≡ count g xs + count h xs =
    count_split f g h xs (λ k less. s (suc k) (omega (arith, less))) in
    by (f x) (g x) (h x) here rest
  where
    by : (a b c : Bool) → Splits a b c → count f xs ≡ count g xs + count h xs
        → length (cond a (x ∷ filter f xs) (filter f xs))
        ≡ length (cond b (x ∷ filter g xs) (filter g xs)) + length (cond c (x ∷ filter h xs) (filter h xs))
    by true true true s r = absurd (let e : true ≡ false = s.apart refl in cc)
    by true true false s r = omega (arith, r)
    by true false true s r = omega (arith, r)
    by true false false s r = absurd (let e : true ≡ false = s.either in cc)
    by false true c s r = absurd (let e : false ≡ true = s.either in cc)
    by false false true s r = absurd (let e : false ≡ true = s.either in cc)
    by false false false s r = r

pub count_none : (f : List ℕ → Bool) (xs : List (List ℕ)) → ((k : ℕ) → k < length xs → f (get_or xs k []) ≡ false) → count f xs ≡ 0
count_none f [] h = refl
count_none f (x ∷ xs) h = ap (λ (b : Bool). length (cond b (x ∷ filter f xs) (filter f xs))) (h 0 (omega arith)) ∙ count_none f xs (λ k g. h (suc k) (omega (arith, g)))

pub count_same : (f g : List ℕ → Bool) (xs : List (List ℕ)) → ((k : ℕ) → k < length xs → f (get_or xs k []) ≡ g (get_or xs k [])) → count f xs ≡ count g xs
count_same f g [] h = refl
count_same f g (x ∷ xs) h =
    let rest = count_same f g xs (λ k less. h (suc k) (omega (arith, less))) in
    ap (λ (b : Bool). length (cond b (x ∷ filter f xs) (filter f xs))) (h 0 (omega arith)) ∙ by (g x) rest
  where
    by : (b : Bool) → count f xs ≡ count g xs → length (cond b (x ∷ filter f xs) (filter f xs)) ≡ length (cond b (x ∷ filter g xs) (filter g xs))
    by true e = ap suc e
    by false e = e

-- the same but for one, which has the first property and lacks the second
pub count_one : (f g : List ℕ → Bool) (xs : List (List ℕ)) (m : ℕ) → m < length xs → f (get_or xs m []) ≡ true → g (get_or xs m []) ≡ false
    → ((k : ℕ) → k < length xs → (k ≡ m → ⊥) → f (get_or xs k []) ≡ g (get_or xs k [])) → count f xs ≡ count g xs + 1
count_one f g [] m h t n s = absurd (omega arith)
count_one f g (x ∷ xs) zero h t n s =
    let rest = count_same f g xs (λ k less. s (suc k) (omega (arith, less)) (λ e. omega (arith, e))) in
    ap (λ (b : Bool). length (cond b (x ∷ filter f xs) (filter f xs))) t
    ∙ ap suc rest ∙ omega arith
    ∙ sym (ap (λ (b : Bool). length (cond b (x ∷ filter g xs) (filter g xs)) + 1) n)
count_one f g (x ∷ xs) (suc m) h t n s =
    let rest : count f xs ≡ count g xs + 1 =
    count_one f g xs m (omega (arith, h)) t n (λ k less other. s (suc k) (omega (arith, less)) (λ e. other (omega (arith, e)))) in
    ap (λ (b : Bool). length (cond b (x ∷ filter f xs) (filter f xs))) (s 0 (omega arith) (λ e. omega (arith, e))) ∙ by (g x) rest
  where
    by : (b : Bool) → count f xs ≡ count g xs + 1 → length (cond b (x ∷ filter f xs) (filter f xs)) ≡ length (cond b (x ∷ filter g xs) (filter g xs)) + 1
    by true e = omega (arith, e)
    by false e = e

-- those that have the first property have the second too
pub count_most : (f g : List ℕ → Bool) (xs : List (List ℕ)) → ((k : ℕ) → k < length xs → f (get_or xs k []) ≡ true → g (get_or xs k []) ≡ true) → count f xs ≤ count g xs
count_most f g [] h = omega arith
count_most f g (x ∷ xs) h =
    let rest : count f xs ≤ count g xs = count_most f g xs (λ k less. h (suc k) (omega (arith, less))) in
    by (f x) (g x) (h 0 (omega arith)) rest
  where
    by : (a b : Bool) → (a ≡ true → b ≡ true) → count f xs ≤ count g xs → length (cond a (x ∷ filter f xs) (filter f xs)) ≤ length (cond b (x ∷ filter g xs) (filter g xs))
    by true true i e = omega (arith, e)
    by true false i e = absurd (let c : false ≡ true = i refl in cc)
    by false true i e = omega (arith, e)
    by false false i e = e

-- and one more has
pub count_less : (f g : List ℕ → Bool) (xs : List (List ℕ)) (m : ℕ) → m < length xs → f (get_or xs m []) ≡ false → g (get_or xs m []) ≡ true
    → ((k : ℕ) → k < length xs → f (get_or xs k []) ≡ true → g (get_or xs k []) ≡ true) → count f xs < count g xs
count_less f g [] m h n t i = absurd (omega arith)
count_less f g (x ∷ xs) zero h n t i =
    let rest : count f xs ≤ count g xs = count_most f g xs (λ k less. i (suc k) (omega (arith, less))) in
    by (f x) (g x) n t rest
  where
    by : (a b : Bool) → a ≡ false → b ≡ true → count f xs ≤ count g xs → length (cond a (x ∷ filter f xs) (filter f xs)) < length (cond b (x ∷ filter g xs) (filter g xs))
    by true b n t e = absurd (let c : true ≡ false = n in cc)
    by false true n t e = omega (arith, e)
    by false false n t e = absurd (let c : false ≡ true = t in cc)
count_less f g (x ∷ xs) (suc m) h n t i =
    let rest : count f xs < count g xs = count_less f g xs m (omega (arith, h)) n t (λ k less. i (suc k) (omega (arith, less))) in
    by (f x) (g x) (i 0 (omega arith)) rest
  where
    by : (a b : Bool) → (a ≡ true → b ≡ true) → count f xs < count g xs → length (cond a (x ∷ filter f xs) (filter f xs)) < length (cond b (x ∷ filter g xs) (filter g xs))
    by true true i e = omega (arith, e)
    by true false i e = absurd (let c : false ≡ true = i refl in cc)
    by false true i e = omega (arith, e)
    by false false i e = e

-- no more have it than there are
pub count_within : (f : List ℕ → Bool) (xs : List (List ℕ)) → count f xs ≤ length xs
count_within f [] = omega arith
count_within f (x ∷ xs) = by (f x) (count_within f xs)
  where
    by : (b : Bool) → count f xs ≤ length xs → length (cond b (x ∷ filter f xs) (filter f xs)) ≤ suc (length xs)
    by true e = omega (arith, e)
    by false e = omega (arith, e)
