-- How far each pass over the items has come, and one item more.
use Rattle.std.proofs.Common.{◌≡◌, ℕ, ◌+◌, ◌-◌, ◌^◌, ◌<◌, ◌≤◌, true, false, List, [], ◌∷◌, ◌++◌, length, set, replicate, take, drop, min, Option, None, Some, get_or, refl, sym, ap, ◌∙◌, subst, inl, inr, arith, length-set, get_or-set_same, get_or-set_other}
use Rattle.std.specs.Option.{IfSome}
use Rattle.std.proofs.lemmas.List.{get_or_append_left, get_or_push, length_push, get_or-replicate, take_min, take_all, drop_all, length-drop}
use Rattle.std.proofs.lemmas.Bool.{cases_lt, cases_eq}
use Rattle.reply_tree.specs.Walks.{path_above, paths, path_of, begins_with, depth_of, size_of, walk_of, RepliesToEarlier, IsWalk, IsWindow}
use Rattle.reply_tree.specs.Kept.{IsOfEach, depth_under, count_added, free_at, top_behind, free_behind}
use Rattle.reply_tree.proofs.Paths.{path_is, path_some, path_short}
use Rattle.reply_tree.proofs.Ranks.{place_of, rank_under, rank_reply, rank_other, rank_first, rank_up_to, rank_last, rank_least, rank_within, rank_top, rank_own, place_apart, place_within, size_within}
use Rattle.reply_tree.proofs.SortedWalk.{sorted_walk}
use Rattle.reply_tree.proofs.Placing.{walk_is}

-- a number for each of the first items
pub record IsOfFirst (k : ℕ) (of : ℕ → ℕ) (ns : List ℕ) : Type 0 where
  pub many : length ns ≡ k
  pub each : (m : ℕ) → m < k → get_or ns m 0 ≡ of m

pub of_none : (of : ℕ → ℕ) (ns : List ℕ) → ns ≡ [] → IsOfFirst 0 of ns
of_none of ns e = record { many = ap length e; each = λ m h. absurd (omega arith) }

pub one_more : (k n : ℕ) (of : ℕ → ℕ) (ns more : List ℕ) → IsOfFirst k of ns → n ≡ of k → more ≡ ns ++ n ∷ [] → IsOfFirst (k + 1) of more
one_more k n of ns more a e is = record {
  many = omega (arith, a.many, ap length is, length_push ns n);
  each = λ m h.
      ap (λ (xs : List ℕ). get_or xs m 0) is ∙ elim (cases_lt m k) [
        | inl less ↦ get_or_append_left ns (n ∷ []) 0 m (omega (arith, less, a.many)) ∙ a.each m less
        | inr more ↦ let same : k ≡ m = omega (arith, h, more) in get_or_push ns n 0 m (a.many ∙ same) ∙ e ∙ ap of same
      ];
}

pub of_each : (ps : List (Option ℕ)) (k : ℕ) (of : ℕ → ℕ) (ns : List ℕ) → k ≡ length ps → IsOfFirst k of ns → IsOfEach ps of ns
of_each ps k of ns e a = record { many = a.many ∙ e; each = λ n h. a.each n (omega (arith, h, e)) }

module _ (ps : List (Option ℕ)) (old : RepliesToEarlier ps) where
  -- ---- depths

  pub depth_is : (n : ℕ) (ds : List ℕ) → n < length ps → IsOfFirst n (depth_of ps) ds → depth_under ds (get_or ps n None) ≡ depth_of ps n
  depth_is n ds h a = by (get_or ps n None) refl
    where
      longer : (x : List ℕ) → (begins_with x [] ≡ false) → length x - 1 + 1 ≡ length (x ++ n ∷ []) - 1
      longer [] e = absurd (let f : true ≡ false = e in cc)
      longer (a ∷ x) e = omega (arith, length_push (a ∷ x) n)

      by : (o : Option ℕ) → get_or ps n None ≡ o → depth_under ds o ≡ depth_of ps n
      by None e = sym (ap (λ (x : List ℕ). length x - 1) (path_is ps n old h ∙ ap (λ (q : Option ℕ). path_above (paths ps) q ++ n ∷ []) e))
      by (Some p) e =
          let lt = old n p e in
          ap (λ (k : ℕ). k + 1) (a.each p lt)
          ∙ longer (path_of ps p) (path_some ps p old (omega (arith, lt, h)))
          ∙ sym (ap (λ (x : List ℕ). length x - 1) (path_is ps n old h ∙ ap (λ (q : Option ℕ). path_above (paths ps) q ++ n ∷ []) e))

  pub depth_room : (n p : ℕ) (ds : List ℕ) → n < length ps → length ps < 2 ^ 32 → IsOfFirst n (depth_of ps) ds → get_or ps n None ≡ Some p → get_or ds p 0 + 1 < 2 ^ 32
  depth_room n p ds h few a e =
      let lt = old n p e in
      let short = path_short ps p old (omega (arith, lt, h)) in
      omega (arith, a.each p lt, short, lt, h, few)

  -- ---- sizes

  -- the items from k on were counted in what they reply to
  pub record AreCounted (k : ℕ) (sizes : List ℕ) : Type 0 where
    pub many : length sizes ≡ length ps
    pub each : (m : ℕ) → m < length ps → get_or sizes m 0 + rank_under ps (Some m) k ≡ size_of ps m + place_of ps m + 1

  pub none_counted : (sizes : List ℕ) → length sizes ≡ length ps → ((m : ℕ) → m < length ps → get_or sizes m 0 ≡ 1) → AreCounted (length ps) sizes
  none_counted sizes e one = record { many = e; each = λ m h. omega (arith, one m h, rank_last ps old m h) }

  -- an item whose replies were counted has its size
  pub own_size : (k : ℕ) (sizes : List ℕ) → k < length ps → AreCounted (k + 1) sizes → get_or sizes k 0 ≡ size_of ps k
  own_size k sizes h a = omega (arith, a.each k h, rank_up_to ps old k (k + 1) h (omega arith))

  pub all_counted : (sizes : List ℕ) → AreCounted 0 sizes → IsOfEach ps (size_of ps) sizes
  all_counted sizes a = record { many = a.many; each = λ m h. omega (arith, a.each m h, rank_first ps old m h) }

  -- the size of a parent after a count is no more than its own
  pub count_room : (k p : ℕ) (sizes : List ℕ) → k < length ps → length ps < 2 ^ 32 → AreCounted (k + 1) sizes → get_or ps k None ≡ Some p → get_or sizes p 0 + get_or sizes k 0 < 2 ^ 32
  count_room k p sizes h few a e =
      let lt = old k p e in
      let within : p < length ps = omega (arith, lt, h) in
      omega (arith, a.each p within, own_size k sizes h a, rank_reply ps old (Some p) k h e, rank_least ps old p k within, size_within ps old p, few)

  pub count_more : (k : ℕ) (sizes : List ℕ) → k < length ps → AreCounted (k + 1) sizes → AreCounted k (count_added sizes k (get_or ps k None))
  count_more k sizes h a = by (get_or ps k None) refl
    where
      known_one : (m : ℕ) → m < length ps → (n : ℕ) → Some m ≡ Some n → n < length ps
      known_one m g n e = let s : m ≡ n = cc in omega (arith, s, g)

      other : (m : ℕ) → m < length ps → (get_or ps k None ≡ Some m → ⊥) → get_or sizes m 0 + rank_under ps (Some m) k ≡ size_of ps m + place_of ps m + 1
      other m g apart = omega (arith, a.each m g, rank_other ps old (Some m) k (known_one m g) h apart)

      by : (o : Option ℕ) → get_or ps k None ≡ o → AreCounted k (count_added sizes k o)
      by None e = record { many = a.many; each = λ m g. other m g (λ f. absurd (let c : None ≡ Some m = sym e ∙ f in cc)) }
      by (Some p) e =
          let lt = old k p e in
          let within : p < length ps = omega (arith, lt, h) in
          let more : ℕ = get_or sizes p 0 + get_or sizes k 0 in
          record {
            many = length-set sizes p more ∙ a.many;
            each = λ m g. elim (cases_eq m p) [
              | inl same ↦
                  let here : get_or (set sizes p more) m 0 ≡ more = ap (λ (i : ℕ). get_or (set sizes p more) i 0) same ∙ get_or-set_same sizes p more 0 (omega (arith, within, a.many)) in
                  let reply : rank_under ps (Some m) (k + 1) ≡ rank_under ps (Some m) k + size_of ps k = rank_reply ps old (Some m) k h (e ∙ ap Some (sym same)) in
                  let was : get_or sizes m 0 ≡ get_or sizes p 0 = ap (λ (i : ℕ). get_or sizes i 0) same in
                  omega (arith, here, reply, was, a.each m g, own_size k sizes h a)
              | inr apart ↦
                  ap (λ (i : ℕ). i + rank_under ps (Some m) k) (get_or-set_other sizes p m more 0 apart)
                  ∙ other m g (λ f. apart (let c : Some p ≡ Some m = sym e ∙ f in cc))
            ];
          }

  -- ---- places

  -- the first n items have their places, and these are the next free ones
  pub record ArePlaced (n top : ℕ) (free walk : List ℕ) : Type 0 where
    pub many : length free ≡ n
    pub long : length walk ≡ length ps
    pub tops : top ≡ rank_under ps None n
    pub below : (m : ℕ) → m < n → get_or free m 0 ≡ rank_under ps (Some m) n
    pub placed : (m : ℕ) → m < n → get_or walk (place_of ps m) 0 ≡ m

  pub none_placed : (top : ℕ) (free walk : List ℕ) → top ≡ 0 → free ≡ [] → length walk ≡ length ps → ArePlaced 0 top free walk
  none_placed top free walk t f w = record {
    many = ap length f;
    long = w;
    tops = t ∙ sym (rank_top ps old);
    below = λ m h. absurd (omega arith);
    placed = λ m h. absurd (omega arith);
  }

  pub next_place : (n top : ℕ) (free walk : List ℕ) → n < length ps → ArePlaced n top free walk → free_at top free (get_or ps n None) ≡ place_of ps n
  next_place n top free walk h a = by (get_or ps n None) refl ∙ rank_own ps old n h
    where
      by : (o : Option ℕ) → get_or ps n None ≡ o → free_at top free o ≡ rank_under ps o n
      by None e = a.tops
      by (Some p) e = a.below p (old n p e)

  pub place_room : (n top : ℕ) (free walk : List ℕ) → n < length ps → length ps < 2 ^ 32 → ArePlaced n top free walk → free_at top free (get_or ps n None) + size_of ps n < 2 ^ 32
  place_room n top free walk h few a =
      let at = next_place n top free walk h a ∙ sym (rank_own ps old n h) in
      omega (arith, at, rank_reply ps old (get_or ps n None) n h refl, rank_within ps old (path_above (paths ps) (get_or ps n None) ++ (n + 1) ∷ []), few)

  pub place_more : (n top place size top' : ℕ) (free walk more : List ℕ) → n < length ps → size ≡ size_of ps n → place ≡ free_at top free (get_or ps n None) → ArePlaced n top free walk
      → top' ≡ top_behind top (get_or ps n None) size → more ≡ free_behind free (get_or ps n None) size ++ (place + 1) ∷ [] → ArePlaced (n + 1) top' more (set walk place n)
  place_more n top place size top' free walk more h sized at a top_is more_is = record {
    many = omega (arith, ap length more_is, length_push (free_behind free (get_or ps n None) size) (place + 1), kept (get_or ps n None));
    long = length-set walk place n ∙ a.long;
    tops = top_is ∙ tops_by (get_or ps n None) refl;
    below = λ m g. ap (λ (xs : List ℕ). get_or xs m 0) more_is ∙ elim (cases_lt m n) [
      | inl less ↦
          get_or_append_left (free_behind free (get_or ps n None) size) ((place + 1) ∷ []) 0 m (omega (arith, less, kept (get_or ps n None)))
          ∙ below_by (get_or ps n None) refl m less
      | inr more ↦
          let same : n ≡ m = omega (arith, g, more) in
          get_or_push (free_behind free (get_or ps n None) size) (place + 1) 0 m (kept (get_or ps n None) ∙ same)
          ∙ ap (λ (k : ℕ). k + 1) here ∙ sym (rank_up_to ps old n (n + 1) h (omega arith)) ∙ ap (λ (k : ℕ). rank_under ps (Some k) (n + 1)) same
    ];
    placed = λ m g. elim (cases_lt m n) [
      | inl less ↦
          get_or-set_other walk place (place_of ps m) n 0 (λ e. place_apart ps old m n (omega (arith, less, h)) h (λ s. omega (arith, s, less)) (e ∙ here))
          ∙ a.placed m less
      | inr more ↦
          let same : n ≡ m = omega (arith, g, more) in
          let spot : place_of ps m ≡ place = ap (place_of ps) (sym same) ∙ sym here in
          ap (λ (k : ℕ). get_or (set walk place n) k 0) spot ∙ get_or-set_same walk place n 0 (omega (arith, here, place_within ps old n h, a.long)) ∙ same
    ];
  }
    where
      here : place ≡ place_of ps n
      here = at ∙ next_place n top free walk h a

      kept : (o : Option ℕ) → length (free_behind free o size) ≡ n
      kept None = a.many
      kept (Some p) = length-set free p (get_or free p 0 + size) ∙ a.many

      none_known : (m : ℕ) → None ≡ Some m → m < length ps
      none_known m e = absurd (cc)

      tops_by : (o : Option ℕ) → get_or ps n None ≡ o → top_behind top o size ≡ rank_under ps None (n + 1)
      tops_by None e = omega (arith, a.tops, sized, rank_reply ps old None n h e)
      tops_by (Some p) e = a.tops ∙ sym (rank_other ps old None n none_known h (λ f. absurd (let c : Some p ≡ None = sym e ∙ f in cc)))

      known_one : (m : ℕ) → m < n → (k : ℕ) → Some m ≡ Some k → k < length ps
      known_one m g k e = let s : m ≡ k = cc in omega (arith, s, g, h)

      same_below : (m : ℕ) → m < n → (get_or ps n None ≡ Some m → ⊥) → get_or free m 0 ≡ rank_under ps (Some m) (n + 1)
      same_below m g apart = a.below m g ∙ sym (rank_other ps old (Some m) n (known_one m g) h apart)

      below_by : (o : Option ℕ) → get_or ps n None ≡ o → (m : ℕ) → m < n → get_or (free_behind free o size) m 0 ≡ rank_under ps (Some m) (n + 1)
      below_by None e m g = same_below m g (λ f. absurd (let c : None ≡ Some m = sym e ∙ f in cc))
      below_by (Some p) e m g = elim (cases_eq m p) [
        | inl same ↦
            let it : get_or (set free p (get_or free p 0 + size)) m 0 ≡ get_or free p 0 + size = ap (λ (i : ℕ). get_or (set free p (get_or free p 0 + size)) i 0) same ∙ get_or-set_same free p (get_or free p 0 + size) 0 (omega (arith, same, g, a.many)) in
            let was : get_or free m 0 ≡ get_or free p 0 = ap (λ (i : ℕ). get_or free i 0) same in
            omega (arith, it, was, a.below m g, sized, rank_reply ps old (Some m) n h (e ∙ ap Some (sym same)))
        | inr apart ↦
            get_or-set_other free p m (get_or free p 0 + size) 0 apart
            ∙ same_below m g (λ f. apart (let c : Some p ≡ Some m = sym e ∙ f in cc))
      ]

  pub all_placed : (top : ℕ) (free walk : List ℕ) → ArePlaced (length ps) top free walk → walk ≡ walk_of ps
  all_placed top free walk a = walk_is ps old walk a.long (λ n h. a.placed n h)

-- what holds of each value that there may be
pub if_some : (o : Option ℕ) (P : ℕ → Type 0) → ((p : ℕ) → o ≡ Some p → P p) → IfSome o P
if_some None P h = tt
if_some (Some p) P h = h p refl

-- a list of one number again and again
pub all_one : (n a : ℕ) (ns : List ℕ) → ns ≡ replicate n a → (m : ℕ) → m < n → get_or ns m 0 ≡ a
all_one n a ns e m h = ap (λ (xs : List ℕ). get_or xs m 0) e ∙ get_or-replicate n m a 0 h

-- a part of the walk
pub window_is : (ps : List (Option ℕ)) → RepliesToEarlier ps → (walk items : List ℕ) (from count start taken : ℕ) → walk ≡ walk_of ps → start ≡ min from (length walk)
    → taken ≡ min count (length walk - start) → items ≡ take taken (drop start walk) → IsWindow ps from count items
window_is ps old walk items from count start taken e s t is = record {
  walk = walk;
  is_walk = subst (IsWalk ps) (sym e) (sorted_walk ps old);
  part = is ∙ elim (cases_lt from (length walk)) [
    | inl less ↦
        let at : start ≡ from = omega (arith, s, less) in
        let left : length (drop start walk) ≡ length walk - start = length-drop start walk in
        ap (λ (n : ℕ). take n (drop start walk)) (t ∙ ap (min count) (sym left)) ∙ take_min count (drop start walk) ∙ ap (λ (n : ℕ). take count (drop n walk)) at
    | inr past ↦
        let at : length walk ≤ start = omega (arith, s, past) in
        ap (take taken) (drop_all start walk at) ∙ none taken ∙ sym (none count) ∙ sym (ap (take count) (drop_all from walk past))
  ];
}
  where
    none : (n : ℕ) → take {A = ℕ} n [] ≡ []
    none n = take_all n [] (omega arith)
