-- A map of contacts and ids filled with the values of another, contact by contact and id by id.
use Rattle.std.proofs.Common.{◌≡◌, ℕ, zero, suc, ◌<◌, ◌≤◌, Bool, true, false, cond, ◌&&◌, ◌||◌, nat_eq, nat_lt, eqb-true, List, [], ◌∷◌, Option, Some, None, refl, sym, ◌∙◌, ap, arith}
use Rattle.std.specs.FinMap as fin_map
use Rattle.std.specs.Ordering.{nat_cmp, eq_by_cmp, ordering_then}
use Rattle.std.specs.declared.cmp.Ordering.TheVariants.{Less, Equal, Greater}
use Rattle.std.proofs.lemmas.Bool.{and_parts, lt-ltb, le-ltb}
use Rattle.sync_rules.specs.Lists.{same_id, is_among}
use Rattle.sync_rules.specs.Facts.{Id, Pair, id_cmp, pair_cmp}
use Rattle.sync_rules.proofs.Elements.{same_id-is, same_id_swap}
use Rattle.sync_rules.proofs.RowLaws.{hits}
use Rattle.sync_rules.proofs.ScanLaws.{pair_total, pair_tied}

-- ---- two maps are one where they find the same

tied_parts : (a b : ℕ) (x y : Id) → ordering_then (nat_cmp a b) (id_cmp x y) ≡ Equal → ◌≡◌ {A = Pair} (a, x) (b, y)
tied_parts a b x y =
    elim (nat_cmp a b) as (λ r. nat_cmp a b ≡ r → ordering_then r (id_cmp x y) ≡ Equal → ◌≡◌ {A = Pair} (a, x) (b, y)) [
      | Less ↦ λ p e. cc
      | Equal ↦ λ p e i. (
        fin_map.nat_cmp-IsAntisymmetric a b p i,
        fin_map.slice_cmp-IsAntisymmetric
            fin_map.nat_cmp-IsAntisymmetric x y e i,
      )
      | Greater ↦ λ p e. cc
    ] refl

pair_same : fin_map.IsAntisymmetric pair_cmp
pair_same a b e = tied_parts a.0 b.0 a.1 b.1 e

hits_is : (contact c : ℕ) (id x : Id) → eq_by_cmp pair_cmp (contact, id) (c, x) ≡ hits contact id c x
hits_is contact c id x = pair_tied contact c id x ∙ ap (λ b. nat_eq contact c && b) (same_id_swap id x)

pub below_or_last : (a n : ℕ) → nat_lt a (suc n) ≡ (nat_lt a n || nat_eq a n)
below_or_last a n = grind arith

-- ---- one value after the other

module _ {X : Type 0} where
  -- the first of two values
  abbrev pub first_of : Option X → Option X → Option X
  first_of None o = o
  first_of (Some v) o = Some v

  -- a value put into a map, where there is one
  abbrev pub put : fin_map.FinMap pair_cmp X → Pair → Option X → fin_map.FinMap pair_cmp X
  put into pair None = into
  put into pair (Some v) = fin_map.insert into pair v

  -- the values that a map has for a contact and these ids
  abbrev pub fill : fin_map.FinMap pair_cmp X → fin_map.FinMap pair_cmp X → ℕ → List Id → fin_map.FinMap pair_cmp X
  fill from into c [] = into
  fill from into c (id ∷ ids) = fill from (put into (c, id) (fin_map.get from (c, id))) c ids

  -- those for the contacts below a number
  abbrev pub fill_below : fin_map.FinMap pair_cmp X → fin_map.FinMap pair_cmp X → List Id → ℕ → fin_map.FinMap pair_cmp X
  fill_below from into ids zero = into
  fill_below from into ids (suc n) = fill from (fill_below from into ids n) n ids

  -- ---- what is found in them

  same_choice : (b : Bool) (o : Option X) → o ≡ cond b o o
  same_choice true o = refl
  same_choice false o = refl

  put_at : (into : fin_map.FinMap pair_cmp X) (pair at : Pair) (o : Option X)
      → fin_map.get (put into pair o) at
      ≡ cond (eq_by_cmp pair_cmp at pair) (first_of o (fin_map.get into at)) (fin_map.get into at)
  put_at into pair at None = same_choice (eq_by_cmp pair_cmp at pair) (fin_map.get into at)
  put_at into pair at (Some v) = fin_map.get-insert pair_total into pair v at

  module _ (from : fin_map.FinMap pair_cmp X) where
    -- what is found of both
    abbrev pub both : fin_map.FinMap pair_cmp X → ℕ → Id → Option X
    both into contact id = first_of (fin_map.get from (contact, id)) (fin_map.get into (contact, id))

    same_pair : (into : fin_map.FinMap pair_cmp X) (contact c : ℕ) (id x : Id) (b : Bool) → hits contact id c x ≡ b
        → cond b (first_of (fin_map.get from (c, x)) (fin_map.get into (contact, id))) (fin_map.get into (contact, id))
        ≡ cond b (both into contact id) (fin_map.get into (contact, id))
    same_pair into contact c id x true h =
        let parts = and_parts (nat_eq contact c) (same_id x id) h in
        let one : contact ≡ c = eqb-true contact c parts.0 in
        let two : x ≡ id = same_id-is x id parts.1 in
        λ i. first_of (fin_map.get from (sym one i, two i)) (fin_map.get into (contact, id))
    same_pair into contact c id x false h = refl

    pub put-get : (into : fin_map.FinMap pair_cmp X) (contact c : ℕ) (id x : Id)
        → fin_map.get (put into (c, x) (fin_map.get from (c, x))) (contact, id)
        ≡ cond (hits contact id c x) (both into contact id) (fin_map.get into (contact, id))
    put-get into contact c id x =
        put_at into (c, x) (contact, id) (fin_map.get from (c, x))
        ∙ (ap (λ b. cond b (first_of (fin_map.get from (c, x)) (fin_map.get into (contact, id)))
        (fin_map.get into (contact, id))) (hits_is contact c id x)
        ∙ same_pair into contact c id x (hits contact id c x) refl)

    first_again : (f m : Option X) → first_of f (first_of f m) ≡ first_of f m
    first_again None m = refl
    first_again (Some v) m = refl

    -- a: the contact; s: this id; t: among the later ids
    fill_step : (a s t : Bool) (f m : Option X)
        → cond (a && t) (first_of f (cond (a && s) (first_of f m) m)) (cond (a && s) (first_of f m) m)
        ≡ cond (a && (s || t)) (first_of f m) m
    fill_step false s t f m = refl
    fill_step true true true f m = first_again f m
    fill_step true true false f m = refl
    fill_step true false t f m = refl

    pub fill-get : (into : fin_map.FinMap pair_cmp X) (contact c : ℕ) (id : Id) (ids : List Id)
        → fin_map.get (fill from into c ids) (contact, id)
        ≡ cond (nat_eq contact c && is_among ids id) (both into contact id) (fin_map.get into (contact, id))
    fill-get into contact c id [] =
        elim (nat_eq contact c) as (λ b. fin_map.get into (contact, id)
        ≡ cond (b && false) (both into contact id) (fin_map.get into (contact, id))) [
          | true ↦ refl
          | false ↦ refl
        ]
    fill-get into contact c id (x ∷ ids) =
        fill-get (put into (c, x) (fin_map.get from (c, x))) contact c id ids
        ∙ (ap (λ (m : Option X). cond (nat_eq contact c && is_among ids id)
        (first_of (fin_map.get from (contact, id)) m) m) (put-get into contact c id x)
        ∙ fill_step (nat_eq contact c) (same_id x id) (is_among ids id) (fin_map.get from (contact, id))
        (fin_map.get into (contact, id)))

    -- a: below the number; b: this number; s: among the ids
    below_step : (a b s : Bool) (f m : Option X)
        → cond (b && s) (first_of f (cond (a && s) (first_of f m) m)) (cond (a && s) (first_of f m) m)
        ≡ cond ((a || b) && s) (first_of f m) m
    below_step true true true f m = first_again f m
    below_step true true false f m = refl
    below_step true false s f m = refl
    below_step false true true f m = refl
    below_step false true false f m = refl
    below_step false false s f m = refl

    pub fill_below-get : (into : fin_map.FinMap pair_cmp X) (ids : List Id) (n contact : ℕ) (id : Id)
        → fin_map.get (fill_below from into ids n) (contact, id)
        ≡ cond (nat_lt contact n && is_among ids id) (both into contact id) (fin_map.get into (contact, id))
    fill_below-get into ids zero contact id =
        let none : nat_lt contact 0 ≡ false = le-ltb contact 0 (omega arith) in
        ap (λ b. cond (b && is_among ids id) (both into contact id) (fin_map.get into (contact, id))) (sym none)
    fill_below-get into ids (suc n) contact id =
        fill-get (fill_below from into ids n) contact n id ids
        ∙ (ap (λ (m : Option X). cond (nat_eq contact n && is_among ids id)
        (first_of (fin_map.get from (contact, id)) m) m) (fill_below-get into ids n contact id)
        ∙ (below_step (nat_lt contact n) (nat_eq contact n) (is_among ids id) (fin_map.get from (contact, id))
        (fin_map.get into (contact, id))
        ∙ ap (λ b. cond (b && is_among ids id) (both into contact id) (fin_map.get into (contact, id)))
        (sym (below_or_last contact n))))

    -- ---- the whole map

    -- a map whose pairs are all among these
    abbrev pub IsWithin : List Id → ℕ → Type 0
    IsWithin ids n = (contact : ℕ) (id : Id) (v : X) → fin_map.get from (contact, id) ≡ Some v
        → (contact < n) × (is_among ids id ≡ true)

    pub not_filled : (into : fin_map.FinMap pair_cmp X) (ids : List Id) (n contact : ℕ) (id : Id) → n ≤ contact
        → fin_map.get (fill_below from into ids n) (contact, id) ≡ fin_map.get into (contact, id)
    not_filled into ids n contact id beyond =
        fill_below-get into ids n contact id
        ∙ ap (λ b. cond (b && is_among ids id) (both into contact id) (fin_map.get into (contact, id)))
        (le-ltb contact n beyond)

    found_all : (b : Bool) (o : Option X) → ((v : X) → o ≡ Some v → b ≡ true) → cond b (first_of o None) None ≡ o
    found_all true None only = refl
    found_all true (Some v) only = refl
    found_all false None only = refl
    found_all false (Some v) only = ap (λ b. cond b (Some v) None) (only v refl)

    pub filled_whole : (ids : List Id) (n : ℕ) → IsWithin ids n → fill_below from fin_map.empty ids n ≡ from
    filled_whole ids n within =
        fin_map.same_map pair_total pair_same (fill_below from fin_map.empty ids n) from
        (λ q. fill_below-get fin_map.empty ids n q.0 q.1
        ∙ (ap (λ (m : Option X). cond (nat_lt q.0 n && is_among ids q.1) (first_of (fin_map.get from q) m) m)
        (fin_map.get-empty pair_cmp q)
        ∙ found_all (nat_lt q.0 n && is_among ids q.1) (fin_map.get from q)
        (λ v e. λ i. lt-ltb q.0 n (within q.0 q.1 v e).0 i && (within q.0 q.1 v e).1 i)))
