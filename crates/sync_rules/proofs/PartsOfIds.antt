-- Parts of lists of ids: some of the ids of a list, in its order.
use Rattle.std.proofs.Common.{◌≡◌, ◌≤◌, Bool, true, false, ◌||◌, List, [], ◌∷◌, length, refl, sym, ◌∙◌, ap, inl, inr, arith}
use Rattle.std.proofs.lemmas.Bool.{or_cases, or_left, or_right, or_parts, false≢true}
use Rattle.sync_ids.specs.Values.{AreIds}
use Rattle.sync_rules.specs.Lists.{same_id, is_among, has_repeat, firsts, firsts_after, unless_among}
use Rattle.sync_rules.specs.Facts.{Id}
use Rattle.sync_rules.proofs.Elements.{same_id-is, same_id_itself}

-- what is kept of a list of ids by taking a part of it
pub record IsPart (part all : List Id) : Type 0 where
  pub shorter : length part ≤ length all
  pub among : (id : Id) → is_among part id ≡ true → is_among all id ≡ true
  pub distinct : has_repeat all ≡ false → has_repeat part ≡ false
  pub whole : AreIds all → AreIds part

pub part_none : IsPart [] []
part_none = record { shorter = omega arith; among = λ id h. h; distinct = λ h. h; whole = λ a. a }

pub part_skip : (part whole : List Id) (x : Id) → IsPart part whole → IsPart part (x ∷ whole)
part_skip part whole x p = record {
  shorter = let h = p.shorter in omega arith;
  among = λ id h. or_right (same_id x id) (is_among whole id) (p.among id h);
  distinct = λ h. p.distinct ((or_parts (is_among whole x) (has_repeat whole) h).1);
  whole = λ a. p.whole a.1;
}

not_true : (b : Bool) → (b ≡ true → ⊥) → b ≡ false
not_true true h = absurd (h refl)
not_true false h = refl

pub part_keep : (part whole : List Id) (x : Id) → IsPart part whole → IsPart (x ∷ part) (x ∷ whole)
part_keep part whole x p = record {
  shorter = let h = p.shorter in omega arith;
  among = λ id h. elim (or_cases (same_id x id) (is_among part id) h) [
    | inl a ↦ or_left (same_id x id) (is_among whole id) a
    | inr b ↦ or_right (same_id x id) (is_among whole id) (p.among id b)
  ];
  distinct = λ h.
      let apart = or_parts (is_among whole x) (has_repeat whole) h in
      let new : is_among part x ≡ false = not_true (is_among part x) (λ a. false≢true (sym apart.0 ∙ p.among x a)) in
      ap (λ b. b || has_repeat part) new ∙ p.distinct apart.1;
  whole = λ a. (a.0, p.whole a.1);
}

distinct_firsts : (earlier ids : List Id) → ((id : Id) → is_among ids id ≡ true → is_among earlier id ≡ false) → has_repeat ids ≡ false → firsts_after earlier ids ≡ ids
distinct_firsts earlier [] apart distinct = refl
distinct_firsts earlier (x ∷ ids) apart distinct =
    let parts = or_parts (is_among ids x) (has_repeat ids) distinct in
    let new : is_among earlier x ≡ false = apart x (or_left (same_id x x) (is_among ids x) (same_id_itself x)) in
    let later : (id : Id) → is_among ids id ≡ true → is_among (x ∷ earlier) id ≡ false =
    λ id h. let other : same_id x id ≡ false = not_true (same_id x id) (λ s. false≢true (sym parts.0 ∙ ap (is_among ids) (same_id-is x id s) ∙ h)) in
    ap (λ b. b || is_among earlier id) other ∙ apart id (or_right (same_id x id) (is_among ids id) h) in
    ap (λ b. unless_among b x (firsts_after (x ∷ earlier) ids)) new ∙ ap (λ (t : List Id). x ∷ t) (distinct_firsts (x ∷ earlier) ids later parts.1)

-- a list without a repetition is the list of its first occurrences
pub firsts_of_distinct : (ids : List Id) → has_repeat ids ≡ false → firsts ids ≡ ids
firsts_of_distinct ids distinct = distinct_firsts [] ids (λ id h. refl) distinct

after_few : (earlier ids : List Id) → length (firsts_after earlier ids) ≤ length ids
after_few earlier [] = omega arith
after_few earlier (id ∷ ids) = go (is_among earlier id) (after_few (id ∷ earlier) ids) where
  go : (b : Bool) → length (firsts_after (id ∷ earlier) ids) ≤ length ids → length (unless_among b id (firsts_after (id ∷ earlier) ids)) ≤ length (id ∷ ids)
  go true h = omega arith
  go false h = omega arith

pub firsts_few : (ids : List Id) → length (firsts ids) ≤ length ids
firsts_few ids = after_few [] ids

after_whole : (earlier ids : List Id) → AreIds ids → AreIds (firsts_after earlier ids)
after_whole earlier [] are = tt
after_whole earlier (id ∷ ids) are = go (is_among earlier id) (after_whole (id ∷ earlier) ids are.1) where
  go : (b : Bool) → AreIds (firsts_after (id ∷ earlier) ids) → AreIds (unless_among b id (firsts_after (id ∷ earlier) ids))
  go true later = later
  go false later = (are.0, later)

pub firsts_whole : (ids : List Id) → AreIds ids → AreIds (firsts ids)
firsts_whole ids are = after_whole [] ids are
