-- A message of a tree replies to the first dependency of its verdict.
use Rattle.std.proofs.Common.{◌≡◌, ℕ, zero, suc, ◌+◌, ◌<◌, Bool, true, false, cond, ◌||◌, ◌&&◌}
use Rattle.std.proofs.Common.{List, [], ◌∷◌, ◌++◌, length, length-append, append_assoc, append-nil}
use Rattle.std.proofs.Common.{Option, None, Some, slice_get, refl, sym, ap, ◌∙◌, subst, arith}
use Rattle.std.specs.List.{filter, list_all}
use Rattle.std.specs.Option.{option_map}
use Rattle.std.proofs.lemmas.Bool.{and_parts, false≢true}
use Rattle.sync_rules.specs.declared.entries.Entry.{Entry}
use Rattle.sync_rules.specs.Clients.{Meaning}
use Rattle.sync_rules.specs.Facts.{Facts, Id, facts, held_at}
use Rattle.sync_rules.specs.Knowing.{AreServed, DeliversInOrder, IsServedBehind}
use Rattle.sync_rules.specs.Legal.{Legal}
use Rattle.sync_rules.specs.Lists.{is_among, same_id}
use Rattle.sync_rules.specs.Steps.{is_beside}
use Rattle.sync_rules.proofs.Elements.{same_id-is}
use Rattle.entry_codec.specs.Naming.{place_in}
use Rattle.tree_commands.specs.Trees.{HasParent, RepliesToFirst, delivered_in, first_dependency_of}
use Rattle.tree_commands.specs.Trees.{parents_behind, parents_of, place_if, replied_by}

-- ---- a message among others has a place

-- the place of a message in a list
record IsAt (ids : List Id) (o : Option ℕ) (d : Id) : Type 0 where
  place : ℕ
  within : place < length ids
  is : o ≡ Some place
  there : slice_get ids place ≡ Some d

later : (x : Id) (ids : List Id) (o : Option ℕ) (d : Id) → IsAt ids o d
    → IsAt (x ∷ ids) (option_map suc o) d
later x ids o d at = record {
  place = suc at.place;
  within = omega (arith, at.within);
  is =
      ap (option_map suc) at.is;
  there = at.there;
}

among_at : (ids : List Id) (d : Id) → is_among ids d ≡ true → IsAt ids (place_in ids d) d
among_at [] d e = absurd (false≢true e)
among_at (x ∷ ids) d e =
    elim (same_id x d) as (λ b. same_id x d ≡ b → (b || is_among ids d) ≡ true
    → IsAt (x ∷ ids) (cond b (Some 0) (option_map suc (place_in ids d))) d) [
      | true ↦ λ s e. record {
        place = 0;
        within = omega arith;
        is = refl;
        there =
            ap Some (same_id-is x d s);
      }
      | false ↦ λ s e. later x ids (place_in ids d) d (among_at ids d e)
    ] refl e

-- what stands in the front
front_at : (xs ys : List Id) (n : ℕ) (d : Id) → slice_get xs n ≡ Some d
    → slice_get (xs ++ ys) n ≡ Some d
front_at [] ys n d e = absurd (let none : None ≡ Some d = e in cc)
front_at (x ∷ xs) ys zero d e = e
front_at (x ∷ xs) ys (suc n) d e = front_at xs ys n d e

-- ---- those that pass a test

module _ (p : Id → Bool) where
  kept_among : (ids : List Id) (d : Id) → p d ≡ true → is_among ids d ≡ true
      → is_among (filter p ids) d ≡ true
  kept_among [] d pass e = e
  kept_among (x ∷ ids) d pass e =
      elim (p x) as (λ b. p x ≡ b → is_among (cond b (x ∷ filter p ids) (filter p ids)) d ≡ true) [
        | true ↦ λ t.
            elim (same_id x d) as (λ b. (b || is_among ids d) ≡ true
            → (b || is_among (filter p ids) d) ≡ true) [
              | true ↦ λ e. refl
              | false ↦ λ e. kept_among ids d pass e
            ] e
        | false ↦ λ f.
            elim (same_id x d) as (λ b. same_id x d ≡ b → (b || is_among ids d) ≡ true
            → is_among (filter p ids) d ≡ true) [
              | true ↦ λ s e. absurd (false≢true (sym f ∙ ap p (same_id-is x d s) ∙ pass))
              | false ↦ λ s e. kept_among ids d pass e
            ] refl e
      ] refl

  kept_push : (ids : List Id) (x : Id) → filter p (ids ++ x ∷ []) ≡ filter p ids ++ cond (p x)
      (x ∷ []) []
  kept_push [] x = elim (p x) as (λ b. cond b (x ∷ []) [] ≡ cond b (x ∷ []) []) [
    | true ↦
        refl
    | false ↦ refl
  ]
  kept_push (y ∷ ids) x =
      elim (p y) as (λ b. cond b (y ∷ filter p (ids ++ x ∷ [])) (filter p (ids ++ x ∷ [])) ≡ cond b
      (y ∷ filter p ids) (filter p ids) ++ cond (p x) (x ∷ []) []) [
        | true ↦ ap (λ (zs : List Id). y ∷ zs) (kept_push ids x)
        | false ↦ kept_push ids x
      ]

-- ---- what a delivered message replies to

module _ (clients : Meaning) (f : Facts) (group : Id) where
  abbrev in_group : Id → Bool
  in_group id = is_beside group (held_at f.held id)

  first_among : (deps : List Id) (d : Id) (before : List Id) (test : Id → Bool)
      → slice_get deps 0 ≡ Some d → list_all (λ x. test x && is_among before x) deps ≡ true
      → (test d ≡ true) × (is_among before d ≡ true)
  first_among [] d before test e all = absurd (let none : None ≡ Some d = e in cc)
  first_among (x ∷ deps) d before test e all =
      let is : x ≡ d = let both : Some x ≡ Some d = e in cc in
      let both = and_parts (test x && is_among before x)
      (list_all (λ x. test x && is_among before x) deps) all in
      let one = and_parts (test x) (is_among before x) both.0 in (
        subst (λ (y : Id). test y ≡ true) is one.0,
        subst (λ (y : Id). is_among before y ≡ true) is
            one.1,
      )

  -- the first dependency of a message of the group is before it, in the group
  first_before : (before : List Id) (id d : Id) → IsServedBehind clients f.groups f.held before id
      → in_group id ≡ true → replied_by clients f (held_at f.held id) ≡ Some d
      → is_among (filter in_group before) d ≡ true
  first_before before id d s inside replied =
      let same : same_id s.message.message.group group ≡ true = sym (ap (is_beside group) s.found)
      ∙ inside in
      let its : s.message.message.group ≡ group = same_id-is s.message.message.group group same in
      let first : slice_get s.deps 0 ≡ Some d =
      sym (ap (replied_by clients f) s.found ∙ ap first_dependency_of s.accepted) ∙ replied in
      let there = first_among s.deps d before
      (λ x. is_beside s.message.message.group (held_at f.held x)) first s.served in
      kept_among in_group before d (subst (λ (g : Id). is_beside g (held_at f.held d) ≡ true) its
      there.0) there.1

  -- a message of a tree behind earlier ones, and its parent
  record HasPlace (earlier ids : List Id) (n : ℕ) (d : Id) : Type 0 where
    place : ℕ
    less : place < length earlier + n
    is : slice_get (parents_behind clients f earlier ids) n ≡ Some (Some place)
    there : slice_get (earlier ++ ids) place ≡ Some d

  at_once : (earlier ids : List Id) (id d : Id) → replied_by clients f (held_at f.held id) ≡ Some d
      → IsAt earlier (place_in earlier d) d → HasPlace earlier (id ∷ ids) 0 d
  at_once earlier ids id d replied at = record {
    place = at.place;
    less = omega (arith, at.within);
    is = ap (λ o. Some (place_if earlier o)) replied ∙ ap Some at.is;
    there = front_at earlier (id ∷ ids) at.place d at.there;
  }

  behind_one : (earlier ids : List Id) (id d : Id) (n : ℕ) → HasPlace (earlier ++ id ∷ []) ids n d
      → HasPlace earlier (id ∷ ids) (suc n) d
  behind_one earlier ids id d n at =
      let long : length (earlier ++ id ∷ []) ≡ length earlier + 1 =
      length-append earlier (id ∷ []) in
      record {
        place = at.place;
        less = omega (arith, at.less, long);
        is = at.is;
        there = subst (λ (xs : List Id). slice_get xs at.place ≡ Some d)
            (append_assoc earlier (id ∷ []) ids) at.there;
      }

  left_out : (before : List Id) (x : Id) → in_group x ≡ false → filter in_group (before ++ x ∷ []) ≡
      filter in_group before
  left_out before x f = kept_push in_group before x
      ∙ ap (λ (b : Bool). filter in_group before ++ cond b (x ∷ []) []) f
      ∙ append-nil (filter in_group before)

  put_in : (before : List Id) (x : Id) → in_group x ≡ true → filter in_group (before ++ x ∷ []) ≡
      filter in_group before ++ x ∷ []
  put_in before x t = kept_push in_group before x
      ∙ ap (λ (b : Bool). filter in_group before ++ cond b (x ∷ []) []) t

  -- a message of the group, and those behind it
  of_group : (before ids : List Id) (x id d : Id) (n : ℕ) → IsServedBehind clients f.groups f.held
      before x → in_group x ≡ true
      → ((k : ℕ) → slice_get (filter in_group ids) k ≡ Some id
      → HasPlace (filter in_group (before ++ x ∷ [])) (filter in_group ids) k d)
      → slice_get (x ∷ filter in_group ids) n ≡ Some id → replied_by clients f (held_at f.held id) ≡
      Some d → HasPlace (filter in_group before) (x ∷ filter in_group ids) n d
  of_group before ids x id d zero s t rest at replied =
      let is : x ≡ id = let both : Some x ≡ Some id = at in cc in
      let replies : replied_by clients f (held_at f.held x) ≡ Some d =
      subst (λ (y : Id). replied_by clients f (held_at f.held y) ≡ Some d) (sym is) replied in
      at_once (filter in_group before) (filter in_group ids) x d replies
      (among_at (filter in_group before) d (first_before before x d s t replies))
  of_group before ids x id d (suc n) s t rest at replied =
      behind_one (filter in_group before) (filter in_group ids) x d n
      (subst (λ (xs : List Id). HasPlace xs (filter in_group ids) n d) (put_in before x t)
      (rest n at))

  has_place : (before ids : List Id) (n : ℕ) (id d : Id) → AreServed clients f.groups f.held before
      ids → slice_get (filter in_group ids) n ≡ Some id
      → replied_by clients f (held_at f.held id) ≡ Some d
      → HasPlace (filter in_group before) (filter in_group ids) n d
  has_place before [] n id d s at replied = absurd (let none : None ≡ Some id = at in cc)
  has_place before (x ∷ ids) n id d s at replied =
      elim (in_group x) as (λ b. in_group x ≡ b
      → slice_get (cond b (x ∷ filter in_group ids) (filter in_group ids)) n ≡ Some id
      → HasPlace (filter in_group before) (cond b (x ∷ filter in_group ids) (filter in_group ids)) n
      d) [
        | true ↦ λ t at. of_group before ids x id d n s.0 t
            (λ k e. has_place (before ++ x ∷ []) ids k id d s.1 e replied) at replied
        | false ↦ λ f at. subst (λ (xs : List Id). HasPlace xs (filter in_group ids) n d)
            (left_out before x f) (has_place (before ++ x ∷ []) ids n id d s.1 at replied)
      ] refl at

  pub has_parent : DeliversInOrder clients f → (n : ℕ) (id d : Id)
      → slice_get (delivered_in f group) n ≡ Some id → replied_by clients f (held_at f.held id) ≡
      Some d
      → HasParent (delivered_in f group) (parents_of clients f (delivered_in f group)) n d
  has_parent served n id d at replied =
      let p = has_place [] f.delivered n id d served at replied in
      record {
        place = p.place;
        earlier =
            (let less : p.place < 0 + n = p.less in omega (arith, less));
        parent = p.is;
        there =
            p.there;
      }

pub reply_to_first : ((clients : Meaning) (j : List (List Entry)) → Legal clients j
    → DeliversInOrder clients (facts j)) → RepliesToFirst
reply_to_first served clients j legal group n id first at replied =
    has_parent clients (facts j) group (served clients j legal) n id first at replied
