-- The path of each item: one more item leaves those before it, and each is that of its parent with its own number.
use Rattle.std.proofs.Common.{◌≡◌, ℕ, zero, suc, ◌+◌, ◌<◌, ◌≤◌, nat_lt, true, false, List, [], ◌∷◌, ◌++◌, length, Option, None, Some, get_or, refl, sym, ap, ◌∙◌, subst, inl, inr, arith, length-append, append_assoc}
use Rattle.std.proofs.lemmas.List.{get_or_append_left, get_or_push, get_or_past, length_push}
use Rattle.std.proofs.lemmas.Bool.{cases_lt}
use Rattle.reply_tree.specs.Walks.{path_above, paths_behind, paths, path_of, begins_with, RepliesToEarlier}
use Rattle.reply_tree.proofs.PathLaws.{all_below, and_left, and_right, and_both}

pub paths_behind-push : (e : List (List ℕ)) (ps : List (Option ℕ)) (p : Option ℕ)
    → paths_behind e (ps ++ p ∷ []) ≡ paths_behind e ps ++ (path_above (paths_behind e ps) p ++ length (paths_behind e ps) ∷ []) ∷ []
paths_behind-push e [] p = refl
paths_behind-push e (q ∷ ps) p = paths_behind-push (e ++ (path_above e q ++ length e ∷ []) ∷ []) ps p

pub length-paths_behind : (e : List (List ℕ)) (ps : List (Option ℕ)) → length (paths_behind e ps) ≡ length e + length ps
length-paths_behind e [] = omega arith
length-paths_behind e (q ∷ ps) =
    length-paths_behind (e ++ (path_above e q ++ length e ∷ []) ∷ []) ps ∙ omega (arith, length_push e (path_above e q ++ length e ∷ []))

pub length-paths : (ps : List (Option ℕ)) → length (paths ps) ≡ length ps
length-paths ps = omega (arith, length-paths_behind [] ps)

pub paths-push : (ps : List (Option ℕ)) (p : Option ℕ) → paths (ps ++ p ∷ []) ≡ paths ps ++ (path_above (paths ps) p ++ length ps ∷ []) ∷ []
paths-push ps p = paths_behind-push [] ps p ∙ ap (λ (n : ℕ). paths ps ++ (path_above (paths ps) p ++ n ∷ []) ∷ []) (length-paths ps)

pub path_of-before : (ps : List (Option ℕ)) (p : Option ℕ) (n : ℕ) → n < length ps → path_of (ps ++ p ∷ []) n ≡ path_of ps n
path_of-before ps p n h =
    ap (λ (qs : List (List ℕ)). get_or qs n []) (paths-push ps p)
    ∙ get_or_append_left (paths ps) ((path_above (paths ps) p ++ length ps ∷ []) ∷ []) [] n (omega (arith, h, length-paths ps))

pub path_of-new : (ps : List (Option ℕ)) (p : Option ℕ) → path_of (ps ++ p ∷ []) (length ps) ≡ path_above (paths ps) p ++ length ps ∷ []
path_of-new ps p =
    ap (λ (qs : List (List ℕ)). get_or qs (length ps) []) (paths-push ps p)
    ∙ get_or_push (paths ps) (path_above (paths ps) p ++ length ps ∷ []) [] (length ps) (length-paths ps)

-- ---- each path is that of the parent, with the number

-- paths of some items, each as it should be
record ArePaths (qs : List (List ℕ)) (ds : List (Option ℕ)) : Type 0 where
  many : length qs ≡ length ds
  each : (n : ℕ) → n < length ds → get_or qs n [] ≡ path_above qs (get_or ds n None) ++ n ∷ []

above_same : (qs : List (List ℕ)) (more : List ℕ) (o : Option ℕ) → ((q : ℕ) → o ≡ Some q → q < length qs) → path_above (qs ++ more ∷ []) o ≡ path_above qs o
above_same qs more None h = refl
above_same qs more (Some q) h = get_or_append_left qs (more ∷ []) [] q (h q refl)

are_paths-push : (qs : List (List ℕ)) (ds : List (Option ℕ)) (p : Option ℕ) → ArePaths qs ds → RepliesToEarlier (ds ++ p ∷ []) → ArePaths (qs ++ (path_above qs p ++ length qs ∷ []) ∷ []) (ds ++ p ∷ [])
are_paths-push qs ds p a old =
    let new = path_above qs p ++ length qs ∷ [] in
    let last_is : get_or (ds ++ p ∷ []) (length ds) None ≡ p = get_or_push ds p None (length ds) refl in
    record {
      many = omega (arith, a.many, length_push qs new, length_push ds p);
      each = λ n h.
          elim (cases_lt n (length ds)) [
            | inl before ↦
                let here : get_or (ds ++ p ∷ []) n None ≡ get_or ds n None = get_or_append_left ds (p ∷ []) None n before in
                get_or_append_left qs (new ∷ []) [] n (omega (arith, before, a.many))
                ∙ a.each n before
                ∙ ap (λ (x : List ℕ). x ++ n ∷ []) (sym (above_same qs new (get_or ds n None) (λ q e. let lt = old n q (here ∙ e) in omega (arith, lt, before, a.many))))
                ∙ ap (λ (o : Option ℕ). path_above (qs ++ new ∷ []) o ++ n ∷ []) (sym here)
            | inr behind ↦
                let at : n ≡ length ds = omega (arith, h, behind, length_push ds p) in
                let all : length qs ≡ n = omega (arith, at, a.many) in
                get_or_push qs new [] n all
                ∙ ap (λ (x : List ℕ). x ++ length qs ∷ []) (sym (above_same qs new p (λ q e. let lt = old (length ds) q (last_is ∙ e) in omega (arith, lt, a.many))))
                ∙ ap (λ (m : ℕ). path_above (qs ++ new ∷ []) p ++ m ∷ []) all
                ∙ ap (λ (o : Option ℕ). path_above (qs ++ new ∷ []) o ++ n ∷ []) (sym (ap (λ (m : ℕ). get_or (ds ++ p ∷ []) m None) at ∙ last_is))
          ];
    }

front_old : (ds ps : List (Option ℕ)) → RepliesToEarlier (ds ++ ps) → RepliesToEarlier ds
front_old ds ps old n p h =
    elim (cases_lt n (length ds)) [
      | inl before ↦ old n p (get_or_append_left ds ps None n before ∙ h)
      | inr behind ↦ absurd (let e : None ≡ Some p = sym (get_or_past ds n None behind) ∙ h in cc)
    ]

are_paths : (qs : List (List ℕ)) (ds ps : List (Option ℕ)) → ArePaths qs ds → RepliesToEarlier (ds ++ ps) → ArePaths (paths_behind qs ps) (ds ++ ps)
are_paths qs ds [] a old = record {
  many = omega (arith, a.many, length-append ds []);
  each = λ n h.
      let all : ds ++ [] ≡ ds = nil_behind ds in
      let within : n < length ds = omega (arith, h, ap length all) in
      a.each n within ∙ ap (λ (xs : List (Option ℕ)). path_above qs (get_or xs n None) ++ n ∷ []) (sym all);
}
  where
    nil_behind : (xs : List (Option ℕ)) → xs ++ [] ≡ xs
    nil_behind [] = refl
    nil_behind (x ∷ xs) = ap (λ (ys : List (Option ℕ)). x ∷ ys) (nil_behind xs)
are_paths qs ds (p ∷ ps) a old =
    let join : (ds ++ p ∷ []) ++ ps ≡ ds ++ p ∷ ps = append_assoc ds (p ∷ []) ps in
    let old' : RepliesToEarlier ((ds ++ p ∷ []) ++ ps) = subst RepliesToEarlier (sym join) old in
    subst (ArePaths (paths_behind (qs ++ (path_above qs p ++ length qs ∷ []) ∷ []) ps)) join
    (are_paths (qs ++ (path_above qs p ++ length qs ∷ []) ∷ []) (ds ++ p ∷ []) ps (are_paths-push qs ds p a (front_old (ds ++ p ∷ []) ps old')) old')

-- the path of an item: that of what it replies to, and its own number
pub path_is : (ps : List (Option ℕ)) (n : ℕ) → RepliesToEarlier ps → n < length ps → path_of ps n ≡ path_above (paths ps) (get_or ps n None) ++ n ∷ []
path_is ps n old h = (are_paths [] [] ps (record { many = refl; each = λ m g. absurd (omega arith) }) old).each n h

-- ---- the numbers of a path

pub all_below-push : (n : ℕ) (xs : List ℕ) (a : ℕ) → all_below n xs ≡ true → nat_lt a n ≡ true → all_below n (xs ++ a ∷ []) ≡ true
all_below-push n [] a h k = and_both (nat_lt a n) true k refl
all_below-push n (x ∷ xs) a h k = and_both (nat_lt x n) (all_below n (xs ++ a ∷ [])) (and_left (nat_lt x n) (all_below n xs) h) (all_below-push n xs a (and_right (nat_lt x n) (all_below n xs) h) k)

lt_more : (a m n : ℕ) → m ≤ n → nat_lt a m ≡ true → nat_lt a n ≡ true
lt_more a m n h k = grind arith

pub all_below-more : (m n : ℕ) (xs : List ℕ) → m ≤ n → all_below m xs ≡ true → all_below n xs ≡ true
all_below-more m n [] h k = refl
all_below-more m n (x ∷ xs) h k = and_both (nat_lt x n) (all_below n xs) (lt_more x m n h (and_left (nat_lt x m) (all_below m xs) k)) (all_below-more m n xs h (and_right (nat_lt x m) (all_below m xs) k))

lt_next : (n : ℕ) → nat_lt n (suc n) ≡ true
lt_next n = grind arith

above_below : (ps : List (Option ℕ)) (o : Option ℕ) (n : ℕ) → ((q : ℕ) → o ≡ Some q → (q < n) × (all_below (suc q) (path_of ps q) ≡ true)) → all_below (suc n) (path_above (paths ps) o) ≡ true
above_below ps None n h = refl
above_below ps (Some q) n h = let g = h q refl in all_below-more (suc q) (suc n) (path_of ps q) (omega (arith, g.0)) g.1

path_below_by : (ps : List (Option ℕ)) (fuel n : ℕ) → RepliesToEarlier ps → n < fuel → n < length ps → all_below (suc n) (path_of ps n) ≡ true
path_below_by ps zero n old f h = absurd (omega arith)
path_below_by ps (suc fuel) n old f h =
    ap (all_below (suc n)) (path_is ps n old h)
    ∙ all_below-push (suc n) (path_above (paths ps) (get_or ps n None)) n
    (above_below ps (get_or ps n None) n (λ q e. let lt = old n q e in (lt, path_below_by ps fuel q old (omega (arith, lt, f)) (omega (arith, lt, h)))))
    (lt_next n)

-- a path has no number above its item's
pub path_below : (ps : List (Option ℕ)) (n m : ℕ) → RepliesToEarlier ps → n < length ps → n < m → all_below m (path_of ps n) ≡ true
path_below ps n m old h k = all_below-more (suc n) m (path_of ps n) (omega arith) (path_below_by ps (suc n) n old (omega arith) h)

pub some_begins : (xs : List ℕ) (n : ℕ) → begins_with (xs ++ n ∷ []) [] ≡ false
some_begins [] n = refl
some_begins (x ∷ xs) n = refl

-- no path is empty
pub path_some : (ps : List (Option ℕ)) (n : ℕ) → RepliesToEarlier ps → n < length ps → begins_with (path_of ps n) [] ≡ false
path_some ps n old h = ap (λ (x : List ℕ). begins_with x []) (path_is ps n old h) ∙ some_begins (path_above (paths ps) (get_or ps n None)) n

above_short : (ps : List (Option ℕ)) (o : Option ℕ) (n : ℕ) → ((q : ℕ) → o ≡ Some q → (q < n) × (length (path_of ps q) ≤ q + 1)) → length (path_above (paths ps) o) ≤ n
above_short ps None n h = omega arith
above_short ps (Some q) n h = let g = h q refl in omega (arith, g.0, g.1)

path_short_by : (ps : List (Option ℕ)) (fuel n : ℕ) → RepliesToEarlier ps → n < fuel → n < length ps → length (path_of ps n) ≤ n + 1
path_short_by ps zero n old f h = absurd (omega arith)
path_short_by ps (suc fuel) n old f h =
    let short = above_short ps (get_or ps n None) n (λ q e. let lt = old n q e in (lt, path_short_by ps fuel q old (omega (arith, lt, f)) (omega (arith, lt, h)))) in
    omega (arith, short, ap length (path_is ps n old h), length_push (path_above (paths ps) (get_or ps n None)) n)

-- a path has no more items than there are up to its own
pub path_short : (ps : List (Option ℕ)) (n : ℕ) → RepliesToEarlier ps → n < length ps → length (path_of ps n) ≤ n + 1
path_short ps n old h = path_short_by ps (suc n) n old (omega arith) h
