-- The first groups of a table: a group is none of those before it, and one more.
use Rattle.std.proofs.Common.{◌≡◌, ℕ, zero, suc, ◌+◌, true, false, cond, subst, MatchOption, List, [], ◌∷◌, ◌++◌, length, map, take, Option, Some, None, slice_get, refl, sym, ◌∙◌, ap, arith}
use Rattle.std.specs.Option.{option_map}
use Rattle.std.specs.List.{position_from}
use Rattle.std.specs.Cmp.Lexicographic.{bytes_decides}
use Rattle.std.proofs.lemmas.Bool.{or_parts}
use Rattle.std.proofs.lemmas.Cmp.{nat_list_eq_equiv}
use Rattle.sync_ids.specs.Values.{GroupValue}
use Rattle.sync_rules.specs.Consistency.{ids_of_groups}
use Rattle.sync_rules.specs.Facts.{Id, Known, group_at}
use Rattle.sync_rules.specs.Lists.{has_repeat, is_among, same_id}
use Rattle.visibility_table.specs.Table.{group_number, known}
use Rattle.visibility_table.proofs.Groups.{position_is, numbered}

other_id : (gs : List Known) (n : ℕ) (g : Known) (id : Id) → slice_get gs n ≡ Some g → is_among (ids_of_groups gs) id ≡ false → same_id g.id id ≡ false
other_id [] n g id at none = absurd (let e : None ≡ Some g = at in cc)
other_id (x ∷ gs) zero g id at none =
    let is : x ≡ g = cc in
    ap (λ (k : Known). same_id k.id id) (sym is) ∙ (or_parts (same_id x.id id) (is_among (ids_of_groups gs) id) none).0
other_id (x ∷ gs) (suc n) g id at none = other_id gs n g id at (or_parts (same_id x.id id) (is_among (ids_of_groups gs) id) none).1

pub none_before : (gs : List Known) (n : ℕ) (g : Known) → slice_get gs n ≡ Some g → has_repeat (ids_of_groups gs) ≡ false → group_at (take n gs) g.id ≡ None
none_before [] n g at none = absurd (let e : None ≡ Some g = at in cc)
none_before (x ∷ gs) zero g at none = refl
none_before (x ∷ gs) (suc n) g at none =
    let both = or_parts (is_among (ids_of_groups gs) x.id) (has_repeat (ids_of_groups gs)) none in
    let away : same_id x.id g.id ≡ false = nat_list_eq_equiv.symm x.id g.id ∙ other_id gs n g x.id at both.0 in
    ap (λ b. cond b (Some x) (group_at (take n gs) g.id)) away ∙ none_before gs n g at both.1

pub one_more : (gs : List Known) (n : ℕ) (g : Known) → slice_get gs n ≡ Some g → take (n + 1) gs ≡ take n gs ++ g ∷ []
one_more gs n g at = next gs n g at
  where
    plus : (n : ℕ) → n + 1 ≡ suc n
    plus n = omega arith

    next : (gs : List Known) (n : ℕ) (g : Known) → slice_get gs n ≡ Some g → take (n + 1) gs ≡ take n gs ++ g ∷ []
    next [] n g at = absurd (let e : None ≡ Some g = at in cc)
    next (x ∷ gs) zero g at = let is : x ≡ g = cc in ap (λ (k : Known). k ∷ []) is
    next (x ∷ gs) (suc n) g at = ap (λ m. take m (x ∷ gs)) (plus (suc n)) ∙ ap (λ (ks : List Known). x ∷ ks) (ap (λ m. take m gs) (sym (plus n)) ∙ next gs n g at)

-- a group by its parts
pub whole : (o : Option Known) (d : GroupValue) (i : Id) → option_map (λ (g : Known). g.def) o ≡ Some d → option_map (λ (g : Known). g.id) o ≡ Some i → o ≡ Some (record { def = d; id = i })
whole None d i a b = absurd (let e : None ≡ Some d = a in cc)
whole (Some g) d i a b =
    let def : g.def ≡ d = cc in
    let id : g.id ≡ i = cc in
    λ k. Some (record { def = def k; id = id k })

pub all_taken : (gs : List Known) (n : ℕ) → length gs ≡ n → take n gs ≡ gs
all_taken [] zero e = refl
all_taken [] (suc n) e = refl
all_taken (x ∷ gs) zero e = absurd (omega (arith, e))
all_taken (x ∷ gs) (suc n) e = ap (λ (ks : List Known). x ∷ ks) (all_taken gs n (omega (arith, e)))

at_place : (id : Id) (gs : List Known) (n : ℕ) (g : Known) → slice_get gs n ≡ Some g → has_repeat (ids_of_groups gs) ≡ false → g.id ≡ id → (i m : ℕ) → m ≡ i + n → position_from (λ (k : Known). same_id k.id id) i gs ≡ Some m
at_place id [] n g at none same i m e = absurd (let c : None ≡ Some g = at in cc)
at_place id (x ∷ gs) zero g at none same i m e =
    let is : x ≡ g = cc in
    let here : same_id x.id id ≡ true = (bytes_decides x.id id).1 (ap (λ (k : Known). k.id) is ∙ same) in
    let place : i ≡ m = omega (arith, e) in
    ap (λ b. cond b (Some i) (position_from (λ (k : Known). same_id k.id id) (i + 1) gs)) here ∙ ap Some place
at_place id (x ∷ gs) (suc n) g at none same i m e =
    let both = or_parts (is_among (ids_of_groups gs) x.id) (has_repeat (ids_of_groups gs)) none in
    let away : same_id x.id id ≡ false = ap (same_id x.id) (sym same) ∙ nat_list_eq_equiv.symm x.id g.id ∙ other_id gs n g x.id at both.0 in
    ap (λ b. cond b (Some i) (position_from (λ (k : Known). same_id k.id id) (i + 1) gs)) away ∙ at_place id gs n g at both.1 same (i + 1) m (omega (arith, e))

-- the number of a group is its place, where no two have one id
pub number_at : (gs : List Known) (n : ℕ) (g : Known) (id : Id) → slice_get gs n ≡ Some g → has_repeat (ids_of_groups gs) ≡ false → g.id ≡ id → Some n ≡ group_number gs id
number_at gs n g id at none same =
    sym (position_is (λ (k : Known). same_id k.id id) gs ∙ at_place id gs n g at none same 0 n (omega arith))

-- and its group is the one that is found by the id
pub group_there : (gs : List Known) (id : Id) (n : ℕ) → Some n ≡ group_number gs id → slice_get gs n ≡ group_at gs id
group_there gs id n e = subst (λ o. MatchOption o (group_at gs id ≡ None) (λ m. slice_get gs m ≡ group_at gs id)) (sym e) (numbered gs id)

-- a group at its place, of a table that is kept as ids with their definitions
pub got_known : (es : List (Id × GroupValue)) (n : ℕ) (id : Id) (def : GroupValue) → slice_get es n ≡ Some (id, def) → slice_get (map known es) n ≡ Some (record { def = def; id = id })
got_known [] n id def at = absurd (let c : None ≡ Some (id, def) = at in cc)
got_known (e ∷ es) zero id def at = let is : e ≡ (id, def) = cc in ap (λ x. Some (known x)) is
got_known (e ∷ es) (suc n) id def at = got_known es n id def at
