-- Paths as lists of numbers: which begin with which, and their order.
use Rattle.std.proofs.Common.{◌≡◌, ◌⊎◌, ℕ, ◌==◌, ◌&&◌, ◌||◌, nat_lt, Bool, true, false, List, [], ◌∷◌, ◌++◌, refl, sym, ap, ◌∙◌, subst, inl, inr, arith}
use Rattle.std.proofs.lemmas.Bool.{cases_eq}
use Rattle.reply_tree.specs.Walks.{begins_with, is_before}

-- all numbers of a list are below one
abbrev pub all_below : ℕ → List ℕ → Bool
all_below n [] = true
all_below n (a ∷ xs) = nat_lt a n && all_below n xs

-- ---- tests

pub and_left : (a b : Bool) → (a && b) ≡ true → a ≡ true
and_left true b h = refl
and_left false b h = absurd (let f : false ≡ true = h in cc)

pub and_right : (a b : Bool) → (a && b) ≡ true → b ≡ true
and_right true b h = h
and_right false b h = absurd (let f : false ≡ true = h in cc)

pub and_both : (a b : Bool) → a ≡ true → b ≡ true → (a && b) ≡ true
and_both true b h k = k
and_both false b h k = absurd (let f : false ≡ true = h in cc)

pub eq_same : (a : ℕ) → (a == a) ≡ true
eq_same a = grind arith

pub eq_is : (a b : ℕ) → (a == b) ≡ true → a ≡ b
eq_is a b h = grind arith

pub lt_not_same : (a : ℕ) → nat_lt a a ≡ false
lt_not_same a = grind arith

-- ---- fronts

pub begins-same : (x : List ℕ) → begins_with x x ≡ true
begins-same [] = refl
begins-same (a ∷ x) = and_both (a == a) (begins_with x x) (eq_same a) (begins-same x)

pub begins-then : (x y z : List ℕ) → begins_with x y ≡ true → begins_with y z ≡ true → begins_with x z ≡ true
begins-then [] y z h k = refl
begins-then (a ∷ x) [] z h k = absurd (let f : false ≡ true = h in cc)
begins-then (a ∷ x) (b ∷ y) [] h k = absurd (let f : false ≡ true = k in cc)
begins-then (a ∷ x) (b ∷ y) (c ∷ z) h k =
    let ab = eq_is a b (and_left (a == b) (begins_with x y) h) in
    let bc = eq_is b c (and_left (b == c) (begins_with y z) k) in
    let ac : (a == c) ≡ true = subst (λ (m : ℕ). (a == m) ≡ true) (ab ∙ bc) (eq_same a) in
    and_both (a == c) (begins_with x z) ac
    (begins-then x y z (and_right (a == b) (begins_with x y) h) (and_right (b == c) (begins_with y z) k))

pub begins-more : (x y z : List ℕ) → begins_with x y ≡ true → begins_with x (y ++ z) ≡ true
begins-more [] y z h = refl
begins-more (a ∷ x) [] z h = absurd (let f : false ≡ true = h in cc)
begins-more (a ∷ x) (b ∷ y) z h =
    and_both (a == b) (begins_with x (y ++ z)) (and_left (a == b) (begins_with x y) h) (begins-more x y z (and_right (a == b) (begins_with x y) h))

-- two fronts of one list: one is a front of the other
pub begins-either : (x y z : List ℕ) → begins_with x z ≡ true → begins_with y z ≡ true → (begins_with x y ≡ true) ⊎ (begins_with y x ≡ true)
begins-either [] y z h k = inl refl
begins-either (a ∷ x) [] z h k = inr refl
begins-either (a ∷ x) (b ∷ y) [] h k = absurd (let f : false ≡ true = h in cc)
begins-either (a ∷ x) (b ∷ y) (c ∷ z) h k =
    let ac = eq_is a c (and_left (a == c) (begins_with x z) h) in
    let bc = eq_is b c (and_left (b == c) (begins_with y z) k) in
    let ab : (a == b) ≡ true = subst (λ (m : ℕ). (a == m) ≡ true) (ac ∙ sym bc) (eq_same a) in
    let ba : (b == a) ≡ true = subst (λ (m : ℕ). (b == m) ≡ true) (bc ∙ sym ac) (eq_same b) in
    elim (begins-either x y z (and_right (a == c) (begins_with x z) h) (and_right (b == c) (begins_with y z) k)) [
      | inl one ↦ inl (and_both (a == b) (begins_with x y) ab one)
      | inr other ↦ inr (and_both (b == a) (begins_with y x) ba other)
    ]

eq_below : (a n : ℕ) → nat_lt a n ≡ true → (a == n) ≡ false
eq_below a n h = grind arith

-- a number that is not in a list makes no new front of it
pub begins-push : (x u : List ℕ) (n : ℕ) → all_below n x ≡ true → begins_with x (u ++ n ∷ []) ≡ begins_with x u
begins-push [] u n h = refl
begins-push (a ∷ x) [] n h = ap (λ b. b && begins_with x []) (eq_below a n (and_left (nat_lt a n) (all_below n x) h))
begins-push (a ∷ x) (b ∷ u) n h = ap (λ t. (a == b) && t) (begins-push x u n (and_right (nat_lt a n) (all_below n x) h))

-- no list of lesser numbers begins with one that has a number
pub begins-lacks : (u x : List ℕ) (n : ℕ) → all_below n x ≡ true → begins_with (u ++ n ∷ []) x ≡ false
begins-lacks [] [] n h = refl
begins-lacks [] (a ∷ x) n h = ap (λ b. b && begins_with [] x) (eq_above n a (and_left (nat_lt a n) (all_below n x) h))
  where
    eq_above : (n a : ℕ) → nat_lt a n ≡ true → (n == a) ≡ false
    eq_above n a h = grind arith
begins-lacks (b ∷ u) [] n h = refl
begins-lacks (b ∷ u) (a ∷ x) n h =
    elim (b == a) as (λ t. (t && begins_with (u ++ n ∷ []) x) ≡ false) [
      | true ↦ begins-lacks u x n (and_right (nat_lt a n) (all_below n x) h)
      | false ↦ refl
    ]

-- ---- the order

pub before-same : (x : List ℕ) → is_before x x ≡ false
before-same [] = refl
before-same (a ∷ x) = ap (λ t. t || ((a == a) && is_before x x)) (lt_not_same a) ∙ ap (λ t. t && is_before x x) (eq_same a) ∙ before-same x

-- what begins with a list and has lesser numbers stands before the list with a number more
pub before-push : (u x : List ℕ) (n : ℕ) → begins_with u x ≡ true → all_below n x ≡ true → is_before x (u ++ n ∷ []) ≡ true
before-push [] [] n h k = refl
before-push [] (a ∷ x) n h k = ap (λ t. t || ((a == n) && is_before x [])) (and_left (nat_lt a n) (all_below n x) k)
before-push (b ∷ u) [] n h k = absurd (let f : false ≡ true = h in cc)
before-push (b ∷ u) (a ∷ x) n h k =
    let same : b ≡ a = eq_is b a (and_left (b == a) (begins_with u x) h) in
    let rest = before-push u x n (and_right (b == a) (begins_with u x) h) (and_right (nat_lt a n) (all_below n x) k) in
    subst (λ (m : ℕ). (nat_lt a m || ((a == m) && is_before x (u ++ n ∷ []))) ≡ true) (sym same)
    (ap (λ t. t || ((a == a) && is_before x (u ++ n ∷ []))) (lt_not_same a) ∙ ap (λ t. t && is_before x (u ++ n ∷ [])) (eq_same a) ∙ rest)

-- what stands before a list stands before what begins with it
pub before-more : (x u v : List ℕ) → is_before x u ≡ true → is_before x (u ++ v) ≡ true
before-more [] [] v h = absurd (let f : false ≡ true = h in cc)
before-more [] (b ∷ u) v h = refl
before-more (a ∷ x) [] v h = absurd (let f : false ≡ true = h in cc)
before-more (a ∷ x) (b ∷ u) v h =
    elim (nat_lt a b) as (λ t. (t || ((a == b) && is_before x u)) ≡ true → (t || ((a == b) && is_before x (u ++ v))) ≡ true) [
      | true ↦ λ _. refl
      | false ↦ λ g. and_both (a == b) (is_before x (u ++ v)) (and_left (a == b) (is_before x u) g) (before-more x u v (and_right (a == b) (is_before x u) g))
    ] h

-- what stands behind a list and does not begin with it stands behind all that begins with it
pub before-front : (u x v : List ℕ) → is_before u x ≡ true → begins_with u x ≡ false → is_before (u ++ v) x ≡ true
before-front [] x v h k = absurd (let f : true ≡ false = k in cc)
before-front (a ∷ u) [] v h k = absurd (let f : false ≡ true = h in cc)
before-front (a ∷ u) (b ∷ x) v h k =
    elim (nat_lt a b) as (λ t. (t || ((a == b) && is_before u x)) ≡ true → (t || ((a == b) && is_before (u ++ v) x)) ≡ true) [
      | true ↦ λ _. refl
      | false ↦ λ g.
          let same = and_left (a == b) (is_before u x) g in
          let off : begins_with u x ≡ false = sym (ap (λ t. t && begins_with u x) same) ∙ k in
          and_both (a == b) (is_before (u ++ v) x) same (before-front u x v (and_right (a == b) (is_before u x) g) off)
    ] h

-- of two lists not both stand before the other
pub before-once : (x y : List ℕ) → is_before x y ≡ true → is_before y x ≡ true → ⊥
before-once [] [] h k = let f : false ≡ true = h in cc
before-once [] (b ∷ y) h k = let f : false ≡ true = k in cc
before-once (a ∷ x) [] h k = let f : false ≡ true = h in cc
before-once (a ∷ x) (b ∷ y) h k =
    elim (cases_eq a b) [
      | inl same ↦ before-once x y (tail a b x y same h) (tail b a y x (sym same) k)
      | inr apart ↦ apart_once a b (is_before x y) (is_before y x) apart h k
    ]
  where
    tail : (a b : ℕ) (x y : List ℕ) → a ≡ b → (nat_lt a b || ((a == b) && is_before x y)) ≡ true → is_before x y ≡ true
    tail a b x y same h =
        let first : nat_lt a b ≡ false = subst (λ (m : ℕ). nat_lt a m ≡ false) same (lt_not_same a) in
        and_right (a == b) (is_before x y) (sym (ap (λ t. t || ((a == b) && is_before x y)) first) ∙ h)

    apart_once : (a b : ℕ) (s t : Bool) → (a ≡ b → ⊥) → (nat_lt a b || ((a == b) && s)) ≡ true → (nat_lt b a || ((b == a) && t)) ≡ true → ⊥
    apart_once a b s t apart h k = grind arith
