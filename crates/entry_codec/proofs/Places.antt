-- Ids in a list, and their places in it.
use Rattle.std.proofs.Common.{◌≡◌, ℕ, zero, suc, ◌^◌, ◌<◌, true, false, cond, ◌||◌, List, [], ◌∷◌}
use Rattle.std.proofs.Common.{length, refl, sym, ap, ◌∙◌, arith, Option, unwrap_or}
use Rattle.std.specs.Prelude.{Some}
use Rattle.std.specs.Option.{option_map}
use Rattle.std.specs.Int.{w32, to_be_bytes}
use Rattle.std.specs.List.{slice_get}
use Rattle.std.proofs.lemmas.Bool.{or_left, or_right, or_parts, false≢true}
use Rattle.sync_ids.specs.Values.{AreIds}
use Rattle.sync_rules.specs.Lists.{has_repeat, is_among, same_id}
use Rattle.sync_rules.proofs.Elements.{same_id-is, same_id_itself}
use Rattle.entry_codec.specs.declared.naming.Format.{Format}
use Rattle.entry_codec.specs.declared.naming.Format.TheVariants as format
use Rattle.entry_codec.specs.Naming.{AreNames, IsNamed, held_bytes, place_in}
use Rattle.entry_codec.specs.Spelling.{IsId}
use Rattle.entry_codec.specs.Reading.{be_number_in, held_in, id_in}
use Rattle.entry_codec.proofs.Readers.{IsReader, meant_reads, seen_as}
use Rattle.entry_codec.proofs.Parts.{id_reads, number32}

-- what an id's place gives: the id, at a number below the length
pub record HasPlace (ids : List (List ℕ)) (id : List ℕ) : Type 0 where
  pub n : ℕ
  pub is : place_in ids id ≡ Some n
  pub at : slice_get ids n ≡ Some id
  pub below : n < length ids

place_later : (x : List ℕ) (ids : List (List ℕ)) (id : List ℕ) → same_id x id ≡ false → HasPlace ids id → HasPlace (x ∷ ids) id
place_later x ids id other h = record {
  n = suc h.n;
  is = ap (λ b. cond b (Some 0) (option_map suc (place_in ids id))) other ∙ ap (option_map suc) h.is;
  at = h.at;
  below = omega (arith, h.below);
}

place_now : (x : List ℕ) (ids : List (List ℕ)) (id : List ℕ) → same_id x id ≡ true → HasPlace (x ∷ ids) id
place_now x ids id same = record {
  n = 0;
  is = ap (λ b. cond b (Some 0) (option_map suc (place_in ids id))) same;
  at = ap (λ (y : List ℕ). Some y) (same_id-is x id same);
  below = omega arith;
}

-- an id that is among others has a place
pub place_of_one : (ids : List (List ℕ)) (id : List ℕ) → is_among ids id ≡ true → HasPlace ids id
place_of_one [] id e = absurd (false≢true e)
place_of_one (x ∷ ids) id e =
    elim (same_id x id) as (λ b. same_id x id ≡ b → HasPlace (x ∷ ids) id) [
      | true ↦ λ s. place_now x ids id s
      | false ↦ λ s. place_later x ids id s (place_of_one ids id (λ i. behind x ids id s e i))
    ] refl
  where
    behind : (x : List ℕ) (ids : List (List ℕ)) (id : List ℕ) → same_id x id ≡ false → (same_id x id || is_among ids id) ≡ true → is_among ids id ≡ true
    behind x ids id s e = sym (ap (λ b. b || is_among ids id) s) ∙ e

-- the id of a number is among the ids
pub named_among : (ids : List (List ℕ)) (n : ℕ) (id : List ℕ) → slice_get ids n ≡ Some id → is_among ids id ≡ true
named_among [] n id e = cc
named_among (x ∷ ids) zero id e =
    let same : x ≡ id = cc in
    or_left (same_id x id) (is_among ids id) (ap (λ (y : List ℕ). same_id y id) same ∙ same_id_itself id)
named_among (x ∷ ids) (suc n) id e = or_right (same_id x id) (is_among ids id) (named_among ids n id e)

-- and has 32 bytes
pub named_whole : (ids : List (List ℕ)) (n : ℕ) (id : List ℕ) → AreIds ids → slice_get ids n ≡ Some id → length id ≡ 32
named_whole [] n id all e = cc
named_whole (x ∷ ids) zero id all e = let same : x ≡ id = cc in ap length (sym same) ∙ all.0
named_whole (x ∷ ids) (suc n) id all e = named_whole ids n id all.1 e

-- the number of an id among distinct ones is its place
pub place_of_name : (ids : List (List ℕ)) (n : ℕ) (id : List ℕ) → has_repeat ids ≡ false → slice_get ids n ≡ Some id → place_in ids id ≡ Some n
place_of_name [] n id apart e = cc
place_of_name (x ∷ ids) zero id apart e =
    let same : x ≡ id = cc in
    ap (λ b. cond b (Some 0) (option_map suc (place_in ids id))) (ap (λ (y : List ℕ). same_id y id) same ∙ same_id_itself id)
place_of_name (x ∷ ids) (suc n) id apart e =
    let parts = or_parts (is_among ids x) (has_repeat ids) apart in
    elim (same_id x id) as (λ b. same_id x id ≡ b → place_in (x ∷ ids) id ≡ Some (suc n)) [
      | true ↦ λ s.
          let clash : is_among ids x ≡ true = ap (is_among ids) (same_id-is x id s) ∙ named_among ids n id e in
          absurd (false≢true (sym parts.0 ∙ clash))
      | false ↦ λ s.
          ap (λ b. cond b (Some 0) (option_map suc (place_in ids id))) s ∙ ap (option_map suc) (place_of_name ids n id parts.1 e)
    ] refl

-- ---- ids of messages that are held

-- an id that a format can write and read where these are the ids held
abbrev pub IsHeldId : Format → List (List ℕ) → List ℕ → Type 0
IsHeldId f names id = IsId id × IsNamed f names id

whole_held : (names : List (List ℕ)) → IsReader (held_bytes format.Whole names) (IsHeldId format.Whole names) (held_in format.Whole names)
whole_held names =
    seen_as (λ (id : List ℕ). id) (λ id. id) IsId (λ id. IsId id × Unit {0}) id_in id_reads (λ id m. m.0) (λ id l. (l, tt)) (λ id. refl)

short_held : (names : List (List ℕ)) → AreNames names → IsReader (held_bytes format.Short names) (IsHeldId format.Short names) (held_in format.Short names)
short_held names are =
    meant_reads (to_be_bytes w32) (λ n. n < 2 ^ 32) (IsHeldId format.Short names) (be_number_in w32)
    (slice_get names) (λ id. unwrap_or (place_in names id) 0) number32
    (λ id m. let place = place_of_one names id m.1 in
    let is : unwrap_or (place_in names id) 0 ≡ place.n =
    ap (λ (o : Option ℕ). unwrap_or o 0) place.is in
    (omega (arith, is, place.below, are.few), ap (slice_get names) is ∙ place.at))
    (λ n id l e. (
      (named_whole names n id are.whole e, named_among names n id e),
      sym
          (ap (λ (o : Option ℕ). unwrap_or o 0) (place_of_name names n id are.distinct e)),
    ))

pub held_reads : (f : Format) (names : List (List ℕ)) → AreNames names → IsReader (held_bytes f names) (IsHeldId f names) (held_in f names)
held_reads format.Whole names are = whole_held names
held_reads format.Short names are = short_held names are
