-- Sorting the items by their paths gives the walk.
use Rattle.std.proofs.Common.{◌≡◌, ◌⊎◌, ℕ, zero, suc, ◌+◌, ◌<◌, ◌≤◌, ◌==◌, ◌&&◌, ◌||◌, nat_lt, Bool, true, false, if◌then◌else◌, List, [], ◌∷◌, length, Option, None, get_or, refl, sym, ap, ◌∙◌, subst, inl, inr, arith}
use Rattle.std.proofs.lemmas.List.{get_or_default, same_from_push}
use Rattle.std.proofs.lemmas.Bool.{cases_lt}
use Rattle.reply_tree.specs.Walks.{path_above, paths, path_of, is_before, among_paths, walk_below, walk_of, IsWalk, RepliesToEarlier, IsSortedWalk}
use Rattle.reply_tree.proofs.PathLaws.{and_both, eq_same}
use Rattle.reply_tree.proofs.Paths.{path_is}

either_true : (s t : Bool) → t ≡ true → (s || t) ≡ true
either_true true t h = refl
either_true false t h = h

-- ---- of two lists one stands before the other, or they are one

pub before_or : (x y : List ℕ) → (is_before x y ≡ true) ⊎ ((is_before y x ≡ true) ⊎ (x ≡ y))
before_or [] [] = inr (inr refl)
before_or [] (b ∷ y) = inl refl
before_or (a ∷ x) [] = inr (inl refl)
before_or (a ∷ x) (b ∷ y) =
    elim (cases_lt a b) [
      | inl less ↦ inl (ap (λ (t : Bool). t || ((a == b) && is_before x y)) (lt_is a b less))
      | inr more ↦ elim (cases_lt b a) [
        | inl less ↦ inr (inl (ap (λ (t : Bool). t || ((b == a) && is_before y x)) (lt_is b a less)))
        | inr least ↦
            let same : a ≡ b = omega (arith, more, least) in
            elim (before_or x y) [
              | inl one ↦ inl (by_tail a b x y same one)
              | inr rest ↦ elim rest [
                | inl other ↦ inr (inl (by_tail b a y x (sym same) other))
                | inr equal ↦ inr (inr (ap (λ (n : ℕ). n ∷ x) same ∙ ap (λ (z : List ℕ). b ∷ z) equal))
              ]
            ]
      ]
    ]
  where
    lt_is : (a b : ℕ) → a < b → nat_lt a b ≡ true
    lt_is a b h = grind arith

    by_tail : (a b : ℕ) (x y : List ℕ) → a ≡ b → is_before x y ≡ true → (nat_lt a b || ((a == b) && is_before x y)) ≡ true
    by_tail a b x y same h =
        let eq : (a == b) ≡ true = subst (λ (n : ℕ). (a == n) ≡ true) same (eq_same a) in
        either_true (nat_lt a b) ((a == b) && is_before x y) (and_both (a == b) (is_before x y) eq h)

pub before_then : (x y z : List ℕ) → is_before x y ≡ true → is_before y z ≡ true → is_before x z ≡ true
before_then [] [] z h k = absurd (let f : false ≡ true = h in cc)
before_then [] (b ∷ y) [] h k = absurd (let f : false ≡ true = k in cc)
before_then [] (b ∷ y) (c ∷ z) h k = refl
before_then (a ∷ x) [] z h k = absurd (let f : false ≡ true = h in cc)
before_then (a ∷ x) (b ∷ y) [] h k = absurd (let f : false ≡ true = k in cc)
before_then (a ∷ x) (b ∷ y) (c ∷ z) h k =
    both a b c (is_before x y) (is_before y z) (is_before x z) (λ s t. before_then x y z s t) h k
  where
    both : (a b c : ℕ) (r s t : Bool) → (r ≡ true → s ≡ true → t ≡ true) → (nat_lt a b || ((a == b) && r)) ≡ true → (nat_lt b c || ((b == c) && s)) ≡ true → (nat_lt a c || ((a == c) && t)) ≡ true
    both a b c r s t f h k = grind arith

-- two items with one path are one: its last number is their own
module _ (ps : List (Option ℕ)) (old : RepliesToEarlier ps) where
  pub one_item : (m n : ℕ) → m < length ps → n < length ps → path_of ps m ≡ path_of ps n → m ≡ n
  one_item m n h g e = (same_from_push (path_above (paths ps) (get_or ps m None)) (path_above (paths ps) (get_or ps n None)) m n (sym (path_is ps m old h) ∙ e ∙ path_is ps n old g)).1

  -- a list that ascends
  abbrev pub Ascends : List ℕ → Type 0
  Ascends xs = (i j : ℕ) → i < j → j < length xs → is_before (path_of ps (get_or xs i 0)) (path_of ps (get_or xs j 0)) ≡ true

  tail_ascends : (m : ℕ) (xs : List ℕ) → Ascends (m ∷ xs) → Ascends xs
  tail_ascends m xs a i j h g = a (suc i) (suc j) (omega (arith, h)) (omega (arith, g))

  -- the numbers of a list are items, and none is this one
  abbrev Others : ℕ → List ℕ → Type 0
  Others n xs = (k : ℕ) → k < length xs → (get_or xs k 0 < length ps) × (get_or xs k 0 ≡ n → ⊥)

  -- what is put among others: each is the new one or an earlier one, and nothing is lost
  record IsAmong (n : ℕ) (xs ys : List ℕ) : Type 0 where
    many : length ys ≡ length xs + 1
    ascends : Ascends ys
    here : (k : ℕ) × (k < length ys) × (get_or ys k 0 ≡ n)
    kept : (k : ℕ) → k < length xs → (j : ℕ) × (j < length ys) × (get_or ys j 0 ≡ get_or xs k 0)
    each : (j : ℕ) → j < length ys → (get_or ys j 0 ≡ n) ⊎ ((k : ℕ) × (k < length xs) × (get_or ys j 0 ≡ get_or xs k 0))

  among_front : (n m : ℕ) (xs : List ℕ) → Ascends (m ∷ xs) → is_before (path_of ps n) (path_of ps m) ≡ true → IsAmong n (m ∷ xs) (n ∷ m ∷ xs)
  among_front n m xs a b = record {
    many = omega arith;
    ascends = asc;
    here = (0, omega arith, refl);
    kept = λ k h. (suc k, omega (arith, h), refl);
    each = every;
  }
    where
      first : (j : ℕ) → j < length (m ∷ xs) → is_before (path_of ps n) (path_of ps (get_or (m ∷ xs) j 0)) ≡ true
      first zero h = b
      first (suc j) h = before_then (path_of ps n) (path_of ps m) (path_of ps (get_or xs j 0)) b (a 0 (suc j) (omega arith) h)

      asc : Ascends (n ∷ m ∷ xs)
      asc zero zero h g = absurd (omega arith)
      asc zero (suc j) h g = first j (omega (arith, g))
      asc (suc i) zero h g = absurd (omega arith)
      asc (suc i) (suc j) h g = a i j (omega (arith, h)) (omega (arith, g))

      every : (j : ℕ) → j < length (n ∷ m ∷ xs) → (get_or (n ∷ m ∷ xs) j 0 ≡ n) ⊎ ((k : ℕ) × (k < length (m ∷ xs)) × (get_or (n ∷ m ∷ xs) j 0 ≡ get_or (m ∷ xs) k 0))
      every zero h = inl refl
      every (suc j) h = inr (j, omega (arith, h), refl)

  among_behind : (n m : ℕ) (xs ys : List ℕ) → Ascends (m ∷ xs) → is_before (path_of ps m) (path_of ps n) ≡ true → IsAmong n xs ys → IsAmong n (m ∷ xs) (m ∷ ys)
  among_behind n m xs ys a b r = record {
    many = omega (arith, r.many);
    ascends = asc;
    here = (suc r.here.0, omega (arith, r.here.1), r.here.2);
    kept = keeps;
    each = every;
  }
    where
      first : (j : ℕ) → j < length ys → is_before (path_of ps m) (path_of ps (get_or ys j 0)) ≡ true
      first j h = elim (r.each j h) [
        | inl new ↦ subst (λ (k : ℕ). is_before (path_of ps m) (path_of ps k) ≡ true) (sym new) b
        | inr old_one ↦ subst (λ (k : ℕ). is_before (path_of ps m) (path_of ps k) ≡ true) (sym old_one.2) (a 0 (suc old_one.0) (omega arith) (omega (arith, old_one.1)))
      ]

      asc : Ascends (m ∷ ys)
      asc zero zero h g = absurd (omega arith)
      asc zero (suc j) h g = first j (omega (arith, g))
      asc (suc i) zero h g = absurd (omega arith)
      asc (suc i) (suc j) h g = r.ascends i j (omega (arith, h)) (omega (arith, g))

      keeps : (k : ℕ) → k < length (m ∷ xs) → (j : ℕ) × (j < length (m ∷ ys)) × (get_or (m ∷ ys) j 0 ≡ get_or (m ∷ xs) k 0)
      keeps zero h = (0, omega arith, refl)
      keeps (suc k) h = let t = r.kept k (omega (arith, h)) in (suc t.0, omega (arith, t.1), t.2)

      every : (j : ℕ) → j < length (m ∷ ys) → (get_or (m ∷ ys) j 0 ≡ n) ⊎ ((k : ℕ) × (k < length (m ∷ xs)) × (get_or (m ∷ ys) j 0 ≡ get_or (m ∷ xs) k 0))
      every zero h = inr (0, omega arith, refl)
      every (suc j) h = elim (r.each j (omega (arith, h))) [
        | inl new ↦ inl new
        | inr old_one ↦ inr (suc old_one.0, omega (arith, old_one.1), old_one.2)
      ]

  among : (n : ℕ) (xs : List ℕ) → n < length ps → Others n xs → Ascends xs → IsAmong n xs (among_paths ps n xs)
  among n [] h o a = record {
    many = omega arith;
    ascends = λ i j g k. absurd (omega arith);
    here = (0, omega arith, refl);
    kept = λ k g. absurd (omega arith);
    each = λ j g. let zero_j : j ≡ 0 = omega (arith, g) in inl (ap (λ (k : ℕ). get_or (n ∷ []) k 0) zero_j);
  }
  among n (m ∷ xs) h o a =
      elim (is_before (path_of ps n) (path_of ps m)) as (λ b. is_before (path_of ps n) (path_of ps m) ≡ b → IsAmong n (m ∷ xs) (if b then n ∷ m ∷ xs else m ∷ among_paths ps n xs)) [
        | true ↦ λ e. among_front n m xs a e
        | false ↦ λ e. among_behind n m xs (among_paths ps n xs) a (other e) (among n xs h (λ k g. o (suc k) (omega (arith, g))) (tail_ascends m xs a))
      ] refl
    where
      other : is_before (path_of ps n) (path_of ps m) ≡ false → is_before (path_of ps m) (path_of ps n) ≡ true
      other e = elim (before_or (path_of ps n) (path_of ps m)) [
        | inl one ↦ absurd (let f : true ≡ false = sym one ∙ e in cc)
        | inr rest ↦ elim rest [
          | inl second ↦ second
          | inr same ↦ absurd (let t = o 0 (omega arith) in t.1 (sym (one_item n m h t.0 same)))
        ]
      ]

  -- the numbers below one, sorted
  pub record IsSorted (n : ℕ) (xs : List ℕ) : Type 0 where
    pub many : length xs ≡ n
    pub ascends : Ascends xs
    pub below : (k : ℕ) → k < length xs → get_or xs k 0 < n
    pub all : (m : ℕ) → m < n → (k : ℕ) × (k < length xs) × (get_or xs k 0 ≡ m)

  pub sorted : (n : ℕ) → n ≤ length ps → IsSorted n (walk_below ps n)
  sorted zero h = record { many = refl; ascends = λ i j g k. absurd (omega arith); below = λ k g. absurd (omega arith); all = λ m g. absurd (omega arith) }
  sorted (suc n) h =
      let s = sorted n (omega (arith, h)) in
      let r = among n (walk_below ps n) (omega (arith, h)) (λ k g. let b = s.below k g in (omega (arith, b, h), λ e. omega (arith, e, b))) s.ascends in
      record {
        many = omega (arith, r.many, s.many);
        ascends = r.ascends;
        below = λ j g. elim (r.each j g) [ inl new ↦ omega (arith, new) | inr was ↦ let b = s.below was.0 was.1 in omega (arith, was.2, b) ];
        all = λ m g. elim (cases_lt m n) [
          | inl less ↦ let t = s.all m less in let u = r.kept t.0 t.1 in (u.0, u.1, u.2 ∙ t.2)
          | inr more ↦ let same : n ≡ m = omega (arith, g, more) in (r.here.0, r.here.1, r.here.2 ∙ same)
        ];
      }

  pub sorted_walk : IsWalk ps (walk_of ps)
  sorted_walk =
      let s = sorted (length ps) (omega arith) in
      record {
        items = λ n. (
          (λ h. let t = s.all n h in (t.0, t.1, get_or_default (walk_of ps) t.0 n 0 t.1 ∙ t.2)),
          (λ c. let b = s.below c.0 c.1 in let is : get_or (walk_of ps) c.0 0 ≡ n = get_or_default (walk_of ps) c.0 0 n c.1 ∙ c.2 in omega (arith, b, is)),
        );
        ascends = λ i j h g. s.ascends i j h g;
      }

pub is_sorted_walk : IsSortedWalk
is_sorted_walk ps old = sorted_walk ps old
