-- How many items stand before one in the walk, and how many before the next reply to it: each reply moves the latter by its size.
use Rattle.std.proofs.Common.{◌≡◌, ◌⊎◌, ℕ, zero, suc, ◌+◌, ◌<◌, ◌≤◌, ◌==◌, ◌&&◌, ◌||◌, nat_lt, Bool, true, false, List, [], ◌∷◌, ◌++◌, length, Option, None, Some, get_or, refl, sym, ap, ◌∙◌, subst, inl, inr, arith}
use Rattle.std.proofs.lemmas.List.{same_from_push}
use Rattle.std.proofs.lemmas.Bool.{cases_eq}
use Rattle.reply_tree.specs.Walks.{path_above, paths, path_of, begins_with, is_before, size_of, RepliesToEarlier}
use Rattle.reply_tree.proofs.PathLaws.{all_below, and_left, and_right, and_both, eq_same, eq_is, lt_not_same, before-same}
use Rattle.reply_tree.proofs.Paths.{length-paths, path_is, path_below, path_some, some_begins}
use Rattle.reply_tree.proofs.SortedWalk.{before_then, before_or, one_item}
use Rattle.reply_tree.proofs.Counts.{count, Splits, count_split, count_none, count_one, count_within, count_less}

-- ---- lists of numbers

-- nothing but a list itself is told from it by a 0 behind it
before-zero : (x u : List ℕ) → (x ≡ u → ⊥) → is_before x (u ++ 0 ∷ []) ≡ is_before x u
before-zero [] [] h = absurd (h refl)
before-zero [] (b ∷ u) h = refl
before-zero (a ∷ x) [] h = no (is_before x []) (none x)
  where
    none : (x : List ℕ) → is_before x [] ≡ false
    none [] = refl
    none (y ∷ x) = refl

    no : (s : Bool) → s ≡ false → (nat_lt a 0 || ((a == 0) && s)) ≡ false
    no s e = grind arith
before-zero (a ∷ x) (b ∷ u) h =
    elim (cases_eq a b) [
      | inl same ↦ ap (λ (t : Bool). nat_lt a b || ((a == b) && t)) (before-zero x u (λ e. h (ap (λ (n : ℕ). n ∷ x) same ∙ ap (λ (z : List ℕ). b ∷ z) e)))
      | inr other ↦
          let off : (a == b) ≡ false = not_eq a b other in
          ap (λ (t : Bool). nat_lt a b || (t && is_before x (u ++ 0 ∷ []))) off ∙ sym (ap (λ (t : Bool). nat_lt a b || (t && is_before x u)) off)
    ]
  where
    not_eq : (n m : ℕ) → (n ≡ m → ⊥) → (n == m) ≡ false
    not_eq n m h = grind arith

-- what stands before the next number stands before this one, or begins with it
before-next : (x u : List ℕ) (k : ℕ) → Splits (is_before x (u ++ suc k ∷ [])) (is_before x (u ++ k ∷ [])) (begins_with (u ++ k ∷ []) x)
before-next [] [] k = record { either = refl; apart = λ _. refl }
before-next [] (b ∷ u) k = record { either = refl; apart = λ _. refl }
before-next (a ∷ x) [] k = record { either = either (is_before x []) (none x); apart = apart (is_before x []) (none x) }
  where
    none : (x : List ℕ) → is_before x [] ≡ false
    none [] = refl
    none (y ∷ x) = refl

    either : (t : Bool) → t ≡ false → (nat_lt a (suc k) || ((a == suc k) && t)) ≡ ((nat_lt a k || ((a == k) && t)) || ((k == a) && true))
    either t h = grind arith

    apart : (t : Bool) → t ≡ false → (nat_lt a k || ((a == k) && t)) ≡ true → ((k == a) && true) ≡ false
    apart t h = grind arith
before-next (a ∷ x) (b ∷ u) k =
    let s = before-next x u k in
    record { either = either a b _ _ _ s.either; apart = apart a b _ _ s.apart }
  where
    either : (a b : ℕ) (p q r : Bool) → p ≡ (q || r) → (nat_lt a b || ((a == b) && p)) ≡ ((nat_lt a b || ((a == b) && q)) || ((b == a) && r))
    either a b p q r h = grind arith

    apart : (a b : ℕ) (q r : Bool) → (q ≡ true → r ≡ false) → (nat_lt a b || ((a == b) && q)) ≡ true → ((b == a) && r) ≡ false
    apart a b q r h = grind arith

-- what stands before a list with a greater number behind it stands before the list, or begins with it
before-last : (x u : List ℕ) (n : ℕ) → all_below n x ≡ true → Splits (is_before x (u ++ n ∷ [])) (is_before x u) (begins_with u x)
before-last [] [] n h = record { either = refl; apart = λ e. absurd (let f : false ≡ true = e in cc) }
before-last (a ∷ x) [] n h = record { either = either (and_left (nat_lt a n) (all_below n x) h); apart = λ e. absurd (let f : false ≡ true = e in cc) }
  where
    either : nat_lt a n ≡ true → (nat_lt a n || ((a == n) && is_before x [])) ≡ (false || true)
    either e = ap (λ (t : Bool). t || ((a == n) && is_before x [])) e
before-last [] (b ∷ u) n h = record { either = refl; apart = λ _. refl }
before-last (a ∷ x) (b ∷ u) n h =
    let s = before-last x u n (and_right (nat_lt a n) (all_below n x) h) in
    record { either = either a b _ _ _ s.either; apart = apart a b _ _ s.apart }
  where
    either : (a b : ℕ) (p q r : Bool) → p ≡ (q || r) → (nat_lt a b || ((a == b) && p)) ≡ ((nat_lt a b || ((a == b) && q)) || ((b == a) && r))
    either a b p q r h = grind arith

    apart : (a b : ℕ) (q r : Bool) → (q ≡ true → r ≡ false) → (nat_lt a b || ((a == b) && q)) ≡ true → ((b == a) && r) ≡ false
    apart a b q r h = grind arith

-- a front of a list with a number behind it is the whole, or a front of the list
begins-either-push : (y v : List ℕ) (i : ℕ) → begins_with y (v ++ i ∷ []) ≡ true → (y ≡ v ++ i ∷ []) ⊎ (begins_with y v ≡ true)
begins-either-push [] v i h = inr refl
begins-either-push (a ∷ []) [] i h = inl (ap (λ (n : ℕ). n ∷ []) (eq_is a i (and_left (a == i) true h)))
begins-either-push (a ∷ b ∷ y) [] i h = absurd (let f : false ≡ true = sym (no (a == i)) ∙ h in cc)
  where
    no : (t : Bool) → (t && false) ≡ false
    no true = refl
    no false = refl
begins-either-push (a ∷ y) (c ∷ v) i h =
    let first = and_left (a == c) (begins_with y (v ++ i ∷ [])) h in
    elim (begins-either-push y v i (and_right (a == c) (begins_with y (v ++ i ∷ [])) h)) [
      | inl whole ↦ inl (ap (λ (n : ℕ). n ∷ y) (eq_is a c first) ∙ ap (λ (z : List ℕ). c ∷ z) whole)
      | inr front ↦ inr (and_both (a == c) (begins_with y v) first front)
    ]

true_or_false : (b : Bool) → (b ≡ true) ⊎ (b ≡ false)
true_or_false true = inl refl
true_or_false false = inr refl

-- ---- the items of a forest

-- how many items stand before this path
abbrev pub rank : List (Option ℕ) → List ℕ → ℕ
rank ps u = count (λ x. is_before x u) (paths ps)

-- how many stand before a reply to this of this number
abbrev pub rank_under : List (Option ℕ) → Option ℕ → ℕ → ℕ
rank_under ps o k = rank ps (path_above (paths ps) o ++ k ∷ [])

-- the place of an item
abbrev pub place_of : List (Option ℕ) → ℕ → ℕ
place_of ps n = rank ps (path_of ps n)

module _ (ps : List (Option ℕ)) (old : RepliesToEarlier ps) where
  abbrev pub known : (o : Option ℕ) → Type 0
  known o = (m : ℕ) → o ≡ Some m → m < length ps

  -- a front of a path that ends with a number is the path of the item of that number
  front_is : (u : List ℕ) (j fuel i : ℕ) → i < fuel → i < length ps → begins_with (u ++ j ∷ []) (path_of ps i) ≡ true → (u ++ j ∷ [] ≡ path_of ps j) × (j ≤ i)
  front_is u j zero i f h b = absurd (omega arith)
  front_is u j (suc fuel) i f h b =
      let up = path_is ps i old h in
      elim (begins-either-push (u ++ j ∷ []) (path_above (paths ps) (get_or ps i None)) i (subst (λ (x : List ℕ). begins_with (u ++ j ∷ []) x ≡ true) up b)) [
        | inl whole ↦
            let last : j ≡ i = (same_from_push u (path_above (paths ps) (get_or ps i None)) j i whole).1 in
            (whole ∙ sym up ∙ ap (path_of ps) (sym last), omega (arith, last))
        | inr front ↦ above (get_or ps i None) refl (λ q lt less. front_is u j fuel q (omega (arith, lt, f)) less) front
      ]
    where
      above : (o : Option ℕ) → get_or ps i None ≡ o → ((q : ℕ) → q < i → q < length ps → begins_with (u ++ j ∷ []) (path_of ps q) ≡ true → (u ++ j ∷ [] ≡ path_of ps j) × (j ≤ q)) → begins_with (u ++ j ∷ []) (path_above (paths ps) o) ≡ true → (u ++ j ∷ [] ≡ path_of ps j) × (j ≤ i)
      above None e more b = absurd (let f : true ≡ false = sym b ∙ some_begins u j in cc)
      above (Some q) e more b =
          let lt = old i q e in
          let r = more q lt (omega (arith, lt, h)) b in
          (r.0, omega (arith, lt, r.1))

  -- what two items reply to is one where its path is
  same_above : (o q : Option ℕ) → known o → known q → path_above (paths ps) o ≡ path_above (paths ps) q → o ≡ q
  same_above None None a b e = refl
  same_above None (Some n) a b e = absurd (let f : true ≡ false = ap (λ (x : List ℕ). begins_with x []) e ∙ path_some ps n old (b n refl) in cc)
  same_above (Some m) None a b e = absurd (let f : true ≡ false = ap (λ (x : List ℕ). begins_with x []) (sym e) ∙ path_some ps m old (a m refl) in cc)
  same_above (Some m) (Some n) a b e = ap Some (one_item ps old m n (a m refl) (b n refl) e)

  parent_known : (k : ℕ) → k < length ps → known (get_or ps k None)
  parent_known k h m e = let lt = old k m e in omega (arith, lt, h)

  -- the paths that begin with that of an item's parent and its number are those below the item
  below_reply : (o : Option ℕ) (k : ℕ) → k < length ps → get_or ps k None ≡ o → count (begins_with (path_above (paths ps) o ++ k ∷ [])) (paths ps) ≡ size_of ps k
  below_reply o k h e = ap (λ (x : List ℕ). count (begins_with x) (paths ps)) (ap (λ (q : Option ℕ). path_above (paths ps) q ++ k ∷ []) (sym e) ∙ sym (path_is ps k old h))

  -- and there are none where it replies to another
  below_other : (o : Option ℕ) (k : ℕ) → known o → k < length ps → (get_or ps k None ≡ o → ⊥) → count (begins_with (path_above (paths ps) o ++ k ∷ [])) (paths ps) ≡ 0
  below_other o k a h other =
      count_none (begins_with (path_above (paths ps) o ++ k ∷ [])) (paths ps) (λ i g. elim (true_or_false (begins_with (path_above (paths ps) o ++ k ∷ []) (path_of ps i))) [
        | inr off ↦ off
        | inl on ↦
            let within : i < length ps = omega (arith, g, length-paths ps) in
            let is = (front_is (path_above (paths ps) o) k (suc i) i (omega arith) within on).0 in
            let same = (same_from_push (path_above (paths ps) o) (path_above (paths ps) (get_or ps k None)) k k (is ∙ path_is ps k old h)).0 in
            absurd (other (sym (same_above o (get_or ps k None) a (parent_known k h) same)))
      ])

  rank_next : (u : List ℕ) (k : ℕ) → rank ps (u ++ suc k ∷ []) ≡ rank ps (u ++ k ∷ []) + count (begins_with (u ++ k ∷ [])) (paths ps)
  rank_next u k = count_split (λ x. is_before x (u ++ suc k ∷ [])) (λ x. is_before x (u ++ k ∷ [])) (begins_with (u ++ k ∷ [])) (paths ps) (λ i h. before-next (get_or (paths ps) i []) u k)

  -- behind an item its parent's next place lies so much further
  pub rank_reply : (o : Option ℕ) (k : ℕ) → k < length ps → get_or ps k None ≡ o → rank_under ps o (k + 1) ≡ rank_under ps o k + size_of ps k
  rank_reply o k h e = let r = rank_next (path_above (paths ps) o) k in let s = below_reply o k h e in ap (λ (n : ℕ). rank_under ps o n) (omega arith) ∙ r ∙ ap (λ (n : ℕ). rank_under ps o k + n) s

  pub rank_other : (o : Option ℕ) (k : ℕ) → known o → k < length ps → (get_or ps k None ≡ o → ⊥) → rank_under ps o (k + 1) ≡ rank_under ps o k
  rank_other o k a h other = let r = rank_next (path_above (paths ps) o) k in let s = below_other o k a h other in ap (λ (n : ℕ). rank_under ps o n) (omega arith) ∙ r ∙ ap (λ (n : ℕ). rank_under ps o k + n) s ∙ omega arith

  path_at : (k : ℕ) → k < length ps → k < length (paths ps)
  path_at k h = omega (arith, h, length-paths ps)

  -- the first place below an item is the one behind its own
  pub rank_first : (m : ℕ) → m < length ps → rank_under ps (Some m) 0 ≡ place_of ps m + 1
  rank_first m h = count_one (λ x. is_before x (path_of ps m ++ 0 ∷ [])) (λ x. is_before x (path_of ps m)) (paths ps) m (path_at m h)
      (before_zero_own (path_of ps m))
      (before-same (path_of ps m))
      (λ k less other. before-zero (path_of ps k) (path_of ps m) (λ e. other (one_item ps old k m (omega (arith, less, length-paths ps)) h e)))
    where
      before_zero_own : (u : List ℕ) → is_before u (u ++ 0 ∷ []) ≡ true
      before_zero_own [] = refl
      before_zero_own (a ∷ u) = ap (λ t. t || ((a == a) && is_before u (u ++ 0 ∷ []))) (lt_not_same a) ∙ ap (λ t. t && is_before u (u ++ 0 ∷ [])) (eq_same a) ∙ before_zero_own u

  -- no earlier item replies to it
  pub rank_up_to : (m k : ℕ) → m < length ps → k ≤ m + 1 → rank_under ps (Some m) k ≡ place_of ps m + 1
  rank_up_to m zero h g = rank_first m h
  rank_up_to m (suc k) h g =
      let at = rank_up_to m k h (omega (arith, g)) in
      let same = rank_other (Some m) k (λ n e. let s : m ≡ n = cc in omega (arith, s, h)) (omega (arith, g, h)) (λ e. let lt = old k m e in omega (arith, lt, g)) in
      ap (λ (n : ℕ). rank_under ps (Some m) n) (omega arith) ∙ same ∙ at

  -- behind all items its next place is the one behind all below it
  pub rank_last : (m : ℕ) → m < length ps → rank_under ps (Some m) (length ps) ≡ place_of ps m + size_of ps m
  rank_last m h =
      count_split (λ x. is_before x (path_of ps m ++ length ps ∷ [])) (λ x. is_before x (path_of ps m)) (begins_with (path_of ps m)) (paths ps)
      (λ k less. let within : k < length ps = omega (arith, less, length-paths ps) in before-last (path_of ps k) (path_of ps m) (length ps) (path_below ps k (length ps) old within within))

  -- no rank is past the items
  pub rank_within : (u : List ℕ) → rank ps u ≤ length ps
  rank_within u = omega (arith, count_within (λ x. is_before x u) (paths ps), length-paths ps)

  pub place_within : (m : ℕ) → m < length ps → place_of ps m < length ps
  place_within m h = omega (arith, rank_first m h, rank_within (path_of ps m ++ 0 ∷ []))

  -- the next place below an item is behind its own
  pub rank_least : (m k : ℕ) → m < length ps → place_of ps m + 1 ≤ rank_under ps (Some m) k
  rank_least m zero h = omega (arith, rank_first m h)
  rank_least m (suc k) h = let below = rank_least m k h in omega (arith, below, rank_next (path_of ps m) k)

  -- before the first item no place is taken
  pub rank_top : rank_under ps None 0 ≡ 0
  rank_top = count_none (λ x. is_before x (0 ∷ [])) (paths ps) (λ k less. none (path_of ps k) (path_some ps k old (omega (arith, less, length-paths ps))))
    where
      none : (x : List ℕ) → begins_with x [] ≡ false → is_before x (0 ∷ []) ≡ false
      none [] e = absurd (let f : true ≡ false = e in cc)
      none (a ∷ x) e = before-zero (a ∷ x) [] (λ s. absurd (cc))

  -- the next place for a reply of an item's number is the item's own
  pub rank_own : (n : ℕ) → n < length ps → rank_under ps (get_or ps n None) n ≡ place_of ps n
  rank_own n h = ap (rank ps) (sym (path_is ps n old h))

  -- places go by the order of paths
  pub place_before : (m n : ℕ) → m < length ps → n < length ps → is_before (path_of ps m) (path_of ps n) ≡ true → place_of ps m < place_of ps n
  place_before m n h g b =
      count_less (λ x. is_before x (path_of ps m)) (λ x. is_before x (path_of ps n)) (paths ps) m (path_at m h) (before-same (path_of ps m)) b
      (λ k less first. before_then (path_of ps k) (path_of ps m) (path_of ps n) first b)

  pub place_apart : (m n : ℕ) → m < length ps → n < length ps → (m ≡ n → ⊥) → place_of ps m ≡ place_of ps n → ⊥
  place_apart m n h g other e =
      elim (before_or (path_of ps m) (path_of ps n)) [
        | inl one ↦ let lt = place_before m n h g one in omega (arith, lt, e)
        | inr rest ↦ elim rest [
          | inl two ↦ let lt = place_before n m g h two in omega (arith, lt, e)
          | inr same ↦ other (one_item ps old m n h g same)
        ]
      ]

  pub size_within : (m : ℕ) → size_of ps m ≤ length ps
  size_within m = omega (arith, count_within (begins_with (path_of ps m)) (paths ps), length-paths ps)
