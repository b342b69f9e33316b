-- The ids of held messages as names, and the first so many of them.
use Rattle.std.proofs.Common.{◌≡◌, ℕ, zero, suc, ◌<◌, ◌≤◌, true, false, cond, ◌||◌, List, [], ◌∷◌}
use Rattle.std.proofs.Common.{◌++◌, length, map, take, refl, sym, ap, ◌∙◌, arith, length-append}
use Rattle.std.specs.Prelude.{Option, Some, None, is_some}
use Rattle.std.specs.Option.{option_map}
use Rattle.std.specs.List.{AllByRecursion, slice_get}
use Rattle.std.proofs.lemmas.Bool.{or_parts}
use Rattle.std.proofs.lemmas.List.{length-take, take_at}
use Rattle.sync_ids.specs.Values.{AreIds, MessageValue}
use Rattle.sync_ids.specs.Ids.{message_id_of}
use Rattle.sync_rules.specs.declared.entries.Entry.{Entry}
use Rattle.sync_rules.specs.Consistency.{ids_of_held}
use Rattle.sync_rules.specs.Facts.{Facts, Held, Id, facts}
use Rattle.sync_rules.specs.Lists.{has_repeat, is_among, same_id}
use Rattle.sync_rules.specs.Views.{place_of}
use Rattle.sync_rules.proofs.Continuing.{continues_batches, facts-append}
use Rattle.journal_state.specs.Holding.{IsOwnId}
use Rattle.journal_state.specs.Sound.{AreApart, IsSound}
use Rattle.journal_state.specs.Whole.{StateValue}
use Rattle.entry_codec.specs.Naming.{AreNames, place_in}
use Rattle.entry_codec.specs.Payloads.{names_of}

-- ---- places

pub same_place : (hs : List Held) (id : Id) → place_of hs id ≡ place_in (ids_of_held hs) id
same_place [] id = refl
same_place (h ∷ hs) id =
    ap (λ (o : Option ℕ). cond (same_id h.id id) (Some 0) (option_map suc o)) (same_place hs id)

is_some_later : (o : Option ℕ) → is_some (option_map suc o) ≡ is_some o
is_some_later None = refl
is_some_later (Some n) = refl

pub placed_among : (ids : List Id) (id : Id) → is_some (place_in ids id) ≡ is_among ids id
placed_among [] id = refl
placed_among (x ∷ ids) id =
    elim (same_id x id) as (λ b. is_some (cond b (Some 0) (option_map suc (place_in ids id)))
    ≡ (b || is_among ids id)) [
      | true ↦ refl
      | false ↦ is_some_later (place_in ids id) ∙ placed_among ids id
    ]

none_later : (o : Option ℕ) → o ≡ None → option_map suc o ≡ None
none_later None e = refl
none_later (Some n) e = cc

-- ---- the place of an id among the first so many

behind_first : (count : ℕ) (ids : List Id) (id : Id) (n : ℕ)
    → ((k : ℕ) → place_in ids id ≡ Some k → k < count → place_in (take count ids) id ≡ Some k)
    → (o : Option ℕ) → place_in ids id ≡ o → option_map suc o ≡ Some n → n < suc count
    → option_map suc (place_in (take count ids) id) ≡ Some n
behind_first count ids id n again None is h few = cc
behind_first count ids id n again (Some k) is h few =
    let one : suc k ≡ n = cc in
    ap (option_map suc) (again k is (omega (arith, few, one))) ∙ ap (λ (m : ℕ). Some m) one

pub place_first : (count : ℕ) (ids : List Id) (id : Id) (n : ℕ) → place_in ids id ≡ Some n
    → n < count → place_in (take count ids) id ≡ Some n
place_first zero ids id n e few = absurd (omega (arith, few))
place_first (suc count) [] id n e few = cc
place_first (suc count) (x ∷ ids) id n e few =
    elim (same_id x id) as (λ b. cond b (Some 0) (option_map suc (place_in ids id)) ≡ Some n
    → cond b (Some 0) (option_map suc (place_in (take count ids) id)) ≡ Some n) [
      | true ↦ λ h. h
      | false ↦ λ h. behind_first count ids id n (λ k is less. place_first count ids id k is less)
          (place_in ids id) refl h few
    ] e

behind_past : (count : ℕ) (ids : List Id) (id : Id) (n : ℕ)
    → ((k : ℕ) → place_in ids id ≡ Some k → count ≤ k → place_in (take count ids) id ≡ None)
    → (o : Option ℕ) → place_in ids id ≡ o → option_map suc o ≡ Some n → suc count ≤ n
    → option_map suc (place_in (take count ids) id) ≡ None
behind_past count ids id n again None is h many = cc
behind_past count ids id n again (Some k) is h many =
    let one : suc k ≡ n = cc in
    none_later (place_in (take count ids) id) (again k is (omega (arith, many, one)))

pub place_past : (count : ℕ) (ids : List Id) (id : Id) (n : ℕ) → place_in ids id ≡ Some n
    → count ≤ n → place_in (take count ids) id ≡ None
place_past zero [] id n e many = refl
place_past zero (x ∷ ids) id n e many = refl
place_past (suc count) [] id n e many = refl
place_past (suc count) (x ∷ ids) id n e many =
    elim (same_id x id) as (λ b. cond b (Some 0) (option_map suc (place_in ids id)) ≡ Some n
    → cond b (Some 0) (option_map suc (place_in (take count ids) id)) ≡ None) [
      | true ↦ λ h. let none : 0 ≡ n = cc in absurd (omega (arith, none, many))
      | false ↦ λ h. behind_past count ids id n (λ k is more. place_past count ids id k is more)
          (place_in ids id) refl h many
    ] e

behind_none : (count : ℕ) (ids : List Id) (id : Id)
    → (place_in ids id ≡ None → place_in (take count ids) id ≡ None)
    → (o : Option ℕ) → place_in ids id ≡ o → option_map suc o ≡ None
    → option_map suc (place_in (take count ids) id) ≡ None
behind_none count ids id again None is h = none_later (place_in (take count ids) id) (again is)
behind_none count ids id again (Some k) is h = cc

pub place_none : (count : ℕ) (ids : List Id) (id : Id) → place_in ids id ≡ None
    → place_in (take count ids) id ≡ None
place_none zero [] id e = refl
place_none zero (x ∷ ids) id e = refl
place_none (suc count) [] id e = refl
place_none (suc count) (x ∷ ids) id e =
    elim (same_id x id) as (λ b. cond b (Some 0) (option_map suc (place_in ids id)) ≡ None
    → cond b (Some 0) (option_map suc (place_in (take count ids) id)) ≡ None) [
      | true ↦ λ h. cc
      | false ↦ λ h. behind_none count ids id (λ is. place_none count ids id is) (place_in ids id)
          refl h
    ] e

-- ---- names

pub id_there : (hs : List Held) (n : ℕ) → option_map (λ (h : Held). h.id)
    (slice_get hs n) ≡ slice_get (ids_of_held hs) n
id_there [] n = refl
id_there (h ∷ hs) zero = refl
id_there (h ∷ hs) (suc n) = id_there hs n

pub none_there : (hs : List Held) (n : ℕ) → length hs ≤ n → slice_get (ids_of_held hs) n ≡ None
none_there [] n past = refl
none_there (h ∷ hs) zero past = absurd (omega (arith, past))
none_there (h ∷ hs) (suc n) past = none_there hs n (omega (arith, past))

pub first_there : (count : ℕ) (ids : List Id) (n : ℕ) → n < count
    → slice_get (take count ids) n ≡ slice_get ids n
first_there zero ids n few = absurd (omega (arith, few))
first_there (suc count) [] n few = refl
first_there (suc count) (x ∷ ids) zero few = refl
first_there (suc count) (x ∷ ids) (suc n) few = first_there count ids n (omega (arith, few))

pub past_there : (count : ℕ) (ids : List Id) (n : ℕ) → count ≤ n
    → slice_get (take count ids) n ≡ None
past_there zero [] n many = refl
past_there zero (x ∷ ids) n many = refl
past_there (suc count) [] n many = refl
past_there (suc count) (x ∷ ids) zero many = absurd (omega (arith, many))
past_there (suc count) (x ∷ ids) (suc n) many = past_there count ids n (omega (arith, many))

-- ---- the first ids of names are names

ids_len : (hs : List Held) → length (ids_of_held hs) ≡ length hs
ids_len [] = refl
ids_len (h ∷ hs) = omega (arith, ids_len hs)

ids_map : (hs : List Held) → map (λ (h : Held). h.id) hs ≡ ids_of_held hs
ids_map [] = refl
ids_map (h ∷ hs) = ap (λ (ids : List Id). h.id ∷ ids) (ids_map hs)

apart_no_repeat : (ids : List Id) → AreApart ids → has_repeat ids ≡ false
apart_no_repeat [] apart = refl
apart_no_repeat (x ∷ ids) apart =
    ap (λ b. b || has_repeat ids) apart.0 ∙ apart_no_repeat ids apart.1

own_whole : ((m : MessageValue) → length (message_id_of m) ≡ 32) → (hs : List Held)
    → AllByRecursion IsOwnId hs → AreIds (ids_of_held hs)
own_whole whole [] own = tt
own_whole whole (h ∷ hs) own = (ap length own.0 ∙ whole h.message, own_whole whole hs own.1)

not_among : (count : ℕ) (ids : List Id) (id : Id) → is_among ids id ≡ false
    → is_among (take count ids) id ≡ false
not_among zero [] id e = refl
not_among zero (x ∷ ids) id e = refl
not_among (suc count) [] id e = refl
not_among (suc count) (x ∷ ids) id e =
    let parts = or_parts (same_id x id) (is_among ids id) e in
    ap (λ b. b || is_among (take count ids) id) parts.0 ∙ not_among count ids id parts.1

take_no_repeat : (count : ℕ) (ids : List Id) → has_repeat ids ≡ false → has_repeat
    (take count ids) ≡ false
take_no_repeat zero [] e = refl
take_no_repeat zero (x ∷ ids) e = refl
take_no_repeat (suc count) [] e = refl
take_no_repeat (suc count) (x ∷ ids) e =
    let parts = or_parts (is_among ids x) (has_repeat ids) e in
    ap (λ b. b || has_repeat (take count ids)) (not_among count ids x parts.0)
    ∙ take_no_repeat count ids parts.1

take_whole : (count : ℕ) (ids : List Id) → AreIds ids → AreIds (take count ids)
take_whole zero [] all = tt
take_whole zero (x ∷ ids) all = tt
take_whole (suc count) [] all = tt
take_whole (suc count) (x ∷ ids) all = (all.0, take_whole count ids all.1)

pub sound_names : ((m : MessageValue) → length (message_id_of m) ≡ 32) → (s : StateValue)
    → IsSound s → AreNames (names_of s.facts)
sound_names whole s sound =
    let same = ids_map s.facts.held in
    record {
      distinct = ap has_repeat (sym same)
          ∙ apart_no_repeat (map (λ (h : Held). h.id) s.facts.held) sound.distinct;
      whole = own_whole whole s.facts.held sound.named;
      few = omega (arith, ids_len s.facts.held, sound.few);
    }

pub first_names : ((m : MessageValue) → length (message_id_of m) ≡ 32) → (s : StateValue)
    (count : ℕ) → IsSound s → AreNames (take count (names_of s.facts))
first_names whole s count sound =
    let ids = names_of s.facts in
    let names = sound_names whole s sound in
    record {
      distinct = take_no_repeat count ids names.distinct;
      whole = take_whole count ids names.whole;
      few = omega (arith, length-take count ids, names.few);
    }

-- ---- the names before a batch

ids-append : (hs more : List Held) → ids_of_held (hs ++ more) ≡ ids_of_held hs ++ ids_of_held more
ids-append [] more = refl
ids-append (h ∷ hs) more = ap (λ (ids : List Id). h.id ∷ ids) (ids-append hs more)

-- those of a journal's front are the first of those of the journal
pub names_front : (j done left : List (List Entry)) → j ≡ done ++ left
    → take (length (facts done).held) (names_of (facts j)) ≡ names_of (facts done)
names_front j done left goes_on =
    let on = continues_batches (facts done) left in
    let held : (facts j).held ≡ (facts done).held ++ on.held.more =
    ap (λ (k : List (List Entry)). (facts k).held) goes_on
    ∙ ap (λ (f : Facts). f.held) (facts-append done left) ∙ on.held.goes_on in
    ap (λ (hs : List Held). take (length (facts done).held) (ids_of_held hs)) held
    ∙ ap (take (length (facts done).held)) (ids-append (facts done).held on.held.more)
    ∙ take_at (ids_of_held (facts done).held) (ids_of_held on.held.more) (length (facts done).held)
    (ids_len (facts done).held)

pub names_few : (j done left : List (List Entry)) → j ≡ done ++ left
    → length (facts done).held ≤ length (facts j).held
names_few j done left goes_on =
    let on = continues_batches (facts done) left in
    let held : (facts j).held ≡ (facts done).held ++ on.held.more =
    ap (λ (k : List (List Entry)). (facts k).held) goes_on
    ∙ ap (λ (f : Facts). f.held) (facts-append done left) ∙ on.held.goes_on in
    omega (arith, ap length held, length-append (facts done).held on.held.more)
