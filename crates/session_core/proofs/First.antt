-- The distinct ids of a list, gathered one by one, with the set of those before that share a slot.
use Rattle.std.proofs.Common.{◌≡◌, ℕ, ◌+◌, ◌<◌, Bool, true, false, cond, not, ◌&&◌, ◌||◌, List, [], ◌∷◌}
use Rattle.std.proofs.Common.{◌++◌, length, take, drop, get_or, slice_index_or, refl, sym, ap, ◌∙◌}
use Rattle.std.proofs.Common.{append_assoc, true≢false}
use Rattle.std.proofs.lemmas.List.{drop_more, take_more, get_or_default}
use Rattle.std.proofs.lemmas.List.Folds.{list_any-append}
use Rattle.std.specs.List.{list_any}
use Rattle.std.specs.Ordering.{nat_cmp, is_eq}
use Rattle.std.specs.Cmp.Lexicographic.{bytes_decides, nat_list_eq_equiv, slice_cmp, texts_ties}
use Rattle.sync_rules.specs.Lists.{same_id, is_among, unless_among, firsts, firsts_after}
use Rattle.session_core.specs.Slots.{AreCounted, HasJoined, is_shared}

-- the same ids are among both lists
abbrev pub SameIds : List (List ℕ) → List (List ℕ) → Type 0
SameIds a b = (x : List ℕ) → is_among a x ≡ is_among b x

-- what is left of a list depends on which ids came earlier alone
pub firsts_after-same : (a b ids : List (List ℕ)) → SameIds a b
    → firsts_after a ids ≡ firsts_after b ids
firsts_after-same a b [] same = refl
firsts_after-same a b (id ∷ ids) same =
    let rest =
    firsts_after-same (id ∷ a) (id ∷ b) ids (λ (x : List ℕ). ap (λ r. same_id id x || r) (same x)) in
    λ i. unless_among (same id i) id (rest i)

-- the ids before the next place
pub among_next : (ids : List (List ℕ)) (place : ℕ) (id : List ℕ) → place < length ids
    → id ≡ get_or ids place id → SameIds (take (place + 1) ids) (id ∷ take place ids)
among_next ids place id within here = λ x.
    ap (λ l. is_among l x)
    (take_more ids place id within ∙ ap (λ y. take place ids ++ y ∷ []) (sym here))
    ∙ list_any-append (λ y. same_id y x) (take place ids) (id ∷ [])
    ∙ swapped (is_among (take place ids) x) (same_id id x)
  where
    swapped : (a b : Bool) → (a || (b || false)) ≡ (b || a)
    swapped true true = refl
    swapped true false = refl
    swapped false true = refl
    swapped false false = refl

-- ---- the set

-- an ordered set asks by the order
abbrev pub is_at_id : List ℕ → List ℕ → Bool
is_at_id x y = is_eq (slice_cmp nat_cmp x y)

is_at_id-same : (x y : List ℕ) → is_at_id x y ≡ same_id x y
is_at_id-same x y = sym (texts_ties x y)

any-among : (ids : List (List ℕ)) (x : List ℕ) → list_any (is_at_id x) ids ≡ is_among ids x
any-among [] x = refl
any-among (y ∷ ys) x = λ i. (is_at_id-same x y ∙ nat_list_eq_equiv.symm x y) i || any-among ys x i

-- what the set tells of an id that it is asked for
pub told_first : (first shared : Bool) (known : List (List ℕ)) (id : List ℕ) → true ≡ shared
    → first ≡ not (list_any (is_at_id id) known) → first ≡ not (shared && is_among known id)
told_first first shared known id asked told =
    told ∙ ap not (any-among known id ∙ ap (λ b. b && is_among known id) asked)

-- an id joins the set
pub joined : (shared : Bool) (id : List ℕ) (old new : List (List ℕ)) → true ≡ shared
    → ((x : List ℕ) → list_any (is_at_id x) new
    ≡ cond (is_at_id id x) true (list_any (is_at_id x) old))
    → HasJoined shared id old new
joined shared id old new asks more = λ x.
    sym (any-among new x) ∙ more x ∙ (λ i. cond (is_at_id-same id x i) true (any-among old x i))
    ∙ as_or (same_id id x) (is_among old x)
    ∙ ap (λ b. (b && same_id id x) || is_among old x) asks
  where
    as_or : (a b : Bool) → cond a true b ≡ (a || b)
    as_or true b = refl
    as_or false b = refl

-- ---- the gathering

module _ (counts : List ℕ) (ids : List (List ℕ)) where
  -- what was gathered of the ids before a place, and the set then
  pub record IsGathered (place : ℕ) (known distinct : List (List ℕ)) : Type 0 where
    pub gathered : distinct ++ firsts_after (take place ids) (drop place ids) ≡ firsts ids
    pub kept : (x : List ℕ) → is_among known x ≡ (is_shared counts x && is_among (take place ids) x)

  module _ (counted : AreCounted counts ids) (place : ℕ) (id : List ℕ) (within : place < length ids)
      (here : id ≡ get_or ids place id) where
    -- an id that has a slot of its own was not there before
    told : (first : Bool) (known : List (List ℕ))
        → first ≡ not (is_shared counts id && is_among known id)
        → ((x : List ℕ) → is_among known x ≡ (is_shared counts x && is_among (take place ids) x))
        → first ≡ not (is_among (take place ids) id)
    told first known is kept =
        is
        ∙ ap not
        (ap (λ b. is_shared counts id && b) (kept id)
        ∙ by (is_shared counts id) (is_among (take place ids) id) shares)
      where
        there : slice_index_or ids place [] ≡ id
        there = sym (here ∙ get_or_default ids place id [] within)

        shares : is_among (take place ids) id ≡ true → is_shared counts id ≡ true
        shares among =
            ap (is_shared counts) (sym there)
            ∙ counted place within (ap (is_among (take place ids)) there ∙ among)

        by : (s a : Bool) → (a ≡ true → s ≡ true) → (s && (s && a)) ≡ a
        by true a h = refl
        by false true h = absurd (true≢false (sym (h refl)))
        by false false h = refl

    -- what is left adds what is missing, and the set has the ids before that share a slot
    pub gathered_next : (first : Bool) (known new before after : List (List ℕ))
        → first ≡ not (is_shared counts id && is_among known id)
        → HasJoined (is_shared counts id) id known new
        → after ≡ cond first (before ++ id ∷ []) before
        → IsGathered place known before → IsGathered (place + 1) new after
    gathered_next first known new before after is joins put so_far = record {
      gathered =
          let rest = drop (place + 1) ids in
          let left : drop place ids ≡ id ∷ rest =
          drop_more ids place id within ∙ ap (λ x. x ∷ rest) (sym here) in
          (λ i. put i ++ firsts_after-same (take (place + 1) ids) (id ∷ take place ids) rest
          (among_next ids place id within here) i)
          ∙ by first (is_among (take place ids) id) (told first known is so_far.kept)
          ∙ ap (λ others. before ++ firsts_after (take place ids) others) (sym left)
          ∙ so_far.gathered;
      kept = λ x.
          joins x ∙ ap (λ b. (is_shared counts id && same_id id x) || b) (so_far.kept x)
          ∙ split x (same_id id x) refl (is_among (take place ids) x)
          ∙ ap (λ b. is_shared counts x && b) (sym (among_next ids place id within here x));
    }
      where
        by : (b there : Bool) → b ≡ not there
            → cond b (before ++ id ∷ []) before
            ++ firsts_after (id ∷ take place ids) (drop (place + 1) ids)
            ≡ before
            ++ unless_among there id (firsts_after (id ∷ take place ids) (drop (place + 1) ids))
        by true true e = cc
        by false true e = refl
        by true false e =
            append_assoc before (id ∷ []) (firsts_after (id ∷ take place ids) (drop (place + 1) ids))
        by false false e = cc

        all : (s a : Bool) → ((s && true) || (s && a)) ≡ (s && (true || a))
        all true a = refl
        all false a = refl

        none : (s b : Bool) → ((s && false) || b) ≡ b
        none true b = refl
        none false b = refl

        split : (x : List ℕ) (same : Bool) → same_id id x ≡ same → (a : Bool)
            → ((is_shared counts id && same) || (is_shared counts x && a))
            ≡ (is_shared counts x && (same || a))
        split x true e a =
            ap (λ y. (is_shared counts y && true) || (is_shared counts x && a))
            ((bytes_decides id x).0 e)
            ∙ all (is_shared counts x) a
        split x false e a = none (is_shared counts id) (is_shared counts x && a)
