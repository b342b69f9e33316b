-- What is due is of held messages, each named once.
use Rattle.std.proofs.Common.{◌≡◌, ℕ, zero, suc, Bool, true, false, cond, ◌||◌, List, [], ◌∷◌, map, take, Option, None, Some, is_some, refl, sym, ◌∙◌, ap, subst, inl, inr}
use Rattle.std.specs.Option.{option_or}
use Rattle.std.specs.List.{list_all}
use Rattle.std.proofs.lemmas.Bool.{and_parts, and_from, or_parts}
use Rattle.sync_rules.specs.declared.entries.Mode.{Mode}
use Rattle.sync_rules.specs.declared.entries.Mode.TheVariants as mode_kind
use Rattle.sync_rules.specs.declared.entries.Out.{Out}
use Rattle.sync_rules.specs.declared.entries.Out.TheVariants as out
use Rattle.sync_rules.specs.declared.entries.Session.{Session}
use Rattle.sync_rules.specs.Lists.{same_id, is_among, unless_among, firsts, firsts_after}
use Rattle.sync_rules.specs.Facts.{Facts, Held, Id, held_at, is_held}
use Rattle.sync_ids.specs.declared.lists.TheConstants.{MAX_IDS}
use Rattle.sync_rules.specs.Sessions.{acks_due, due_by, first_id, ids_where, offers_due, offers_of}
use Rattle.sync_rules.specs.Sessions.{owed_to, requests_due, send_due, send_of, wanted_of}
use Rattle.sync_rules.specs.Sessions.{due_on_any_way, sooner_due, sooner_of, sooner_offers_of}
use Rattle.sync_rules.proofs.Outputs.{option_or-cases}
use Rattle.journal_state.specs.Taking.{CanSend}
use Rattle.sync_rules.proofs.Elements.{same_id_itself, same_id_swap}
use Rattle.journal_state.specs.Sound.{AreApart}

abbrev ids_of : List Held → List Id
ids_of hs = map (λ (h : Held). h.id) hs

-- ---- each id once

not_where : (test : Held → Bool) (hs : List Held) (id : Id) → is_among (ids_of hs) id ≡ false → is_among (ids_where test hs) id ≡ false
not_where test [] id none = refl
not_where test (h ∷ hs) id none =
    let both = or_parts (same_id h.id id) (is_among (ids_of hs) id) none in
    elim (test h) as (λ b. is_among (cond b (h.id ∷ ids_where test hs) (ids_where test hs)) id ≡ false) [
      | true ↦ (λ i. both.0 i || not_where test hs id both.1 i)
      | false ↦ not_where test hs id both.1
    ]

apart_where : (test : Held → Bool) (hs : List Held) → AreApart (ids_of hs) → AreApart (ids_where test hs)
apart_where test [] apart = tt
apart_where test (h ∷ hs) apart =
    elim (test h) as (λ b. AreApart (cond b (h.id ∷ ids_where test hs) (ids_where test hs))) [
      | true ↦ (not_where test hs h.id apart.0, apart_where test hs apart.1)
      | false ↦ apart_where test hs apart.1
    ]

not_taken : (n : ℕ) (xs : List Id) (id : Id) → is_among xs id ≡ false → is_among (take n xs) id ≡ false
not_taken zero xs id none = refl
not_taken (suc n) [] id none = refl
not_taken (suc n) (x ∷ xs) id none = let both = or_parts (same_id x id) (is_among xs id) none in (λ i. both.0 i || not_taken n xs id both.1 i)

apart_take : (n : ℕ) (xs : List Id) → AreApart xs → AreApart (take n xs)
apart_take zero xs apart = tt
apart_take (suc n) [] apart = tt
apart_take (suc n) (x ∷ xs) apart = (not_taken n xs x apart.0, apart_take n xs apart.1)

-- no id of a list is among others
abbrev NoneAmong : List Id → List Id → Type 0
NoneAmong earlier [] = Unit {0}
NoneAmong earlier (x ∷ xs) = (is_among earlier x ≡ false) × NoneAmong earlier xs

none_more : (x : Id) (earlier xs : List Id) → is_among xs x ≡ false → NoneAmong earlier xs → NoneAmong (x ∷ earlier) xs
none_more x earlier [] apart none = tt
none_more x earlier (y ∷ ys) apart none =
    let both = or_parts (same_id y x) (is_among ys x) apart in
    ((λ i. (same_id_swap x y ∙ both.0) i || none.0 i), none_more x earlier ys both.1 none.1)

firsts_apart : (earlier xs : List Id) → AreApart xs → NoneAmong earlier xs → firsts_after earlier xs ≡ xs
firsts_apart earlier [] apart none = refl
firsts_apart earlier (x ∷ xs) apart none =
    (λ i. unless_among (none.0 i) x (firsts_apart (x ∷ earlier) xs apart.1 (none_more x earlier xs apart.0 none.1) i))

none_among : (xs : List Id) → NoneAmong [] xs
none_among [] = tt
none_among (x ∷ xs) = (refl, none_among xs)

-- ---- each id held

abbrev AllHeld : List Held → List Held → Type 0
AllHeld held [] = Unit {0}
AllHeld held (h ∷ hs) = (is_held held h.id ≡ true) × AllHeld held hs

held_more : (x : Held) (held : List Held) (id : Id) → is_held held id ≡ true → is_held (x ∷ held) id ≡ true
held_more x held id e =
    elim (same_id x.id id) as (λ b. is_some (cond b (Some x) (held_at held id)) ≡ true) [
      | true ↦ refl
      | false ↦ e
    ]

all_more : (x : Held) (held hs : List Held) → AllHeld held hs → AllHeld (x ∷ held) hs
all_more x held [] all = tt
all_more x held (h ∷ hs) all = (held_more x held h.id all.0, all_more x held hs all.1)

all_held : (held : List Held) → AllHeld held held
all_held [] = tt
all_held (h ∷ hs) = (
  ap (λ b. is_some (cond b (Some h) (held_at hs h.id))) (same_id_itself h.id),
  all_more h hs hs (all_held hs),
)

held_where : (held : List Held) (test : Held → Bool) (hs : List Held) → AllHeld held hs → list_all (is_held held) (ids_where test hs) ≡ true
held_where held test [] all = refl
held_where held test (h ∷ hs) all =
    elim (test h) as (λ b. list_all (is_held held) (cond b (h.id ∷ ids_where test hs) (ids_where test hs)) ≡ true) [
      | true ↦ and_from (is_held held h.id) (list_all (is_held held) (ids_where test hs)) all.0 (held_where held test hs all.1)
      | false ↦ held_where held test hs all.1
    ]

all_take : (p : Id → Bool) (n : ℕ) (xs : List Id) → list_all p xs ≡ true → list_all p (take n xs) ≡ true
all_take p zero xs h = refl
all_take p (suc n) [] h = refl
all_take p (suc n) (x ∷ xs) h = let both = and_parts (p x) (list_all p xs) h in and_from (p x) (list_all p (take n xs)) both.0 (all_take p n xs both.1)

-- held messages, each named once
pub record IsSendable (held : List Held) (ids : List Id) : Type 0 where
  pub held_each : list_all (is_held held) ids ≡ true
  pub once : firsts ids ≡ ids

sendable : (held : List Held) (test : Held → Bool) (n : ℕ) → AreApart (ids_of held) → IsSendable held (take n (ids_where test held))
sendable held test n apart = record {
  held_each = all_take (is_held held) n (ids_where test held) (held_where held test held (all_held held));
  once =
      firsts_apart [] (take n (ids_where test held)) (apart_take n (ids_where test held) (apart_where test held apart))
      (none_among (take n (ids_where test held)));
}

first_held : (held : List Held) (xs : List Id) (id : Id) → list_all (is_held held) xs ≡ true → first_id xs ≡ Some id → is_held held id ≡ true
first_held held [] id all e = absurd (let none : None ≡ Some id = e in cc)
first_held held (x ∷ xs) id all e = let same : x ≡ id = cc in ap (is_held held) (sym same) ∙ (and_parts (is_held held x) (list_all (is_held held) xs) all).0

-- ---- what is due

module _ (f : Facts) (what : Out) where
  acks_can : (ids : List Id) (later : Option Out) → IsSendable f.held ids
      → (later ≡ Some what → CanSend f what) → option_or (acks_due ids) later ≡ Some what
      → CanSend f what
  acks_can [] later s others e = others e
  acks_can (id ∷ ids) later s others e =
      let same : out.Acks (id ∷ ids) ≡ what = cc in subst (CanSend f) same (s.held_each, s.once)

  requests_can : (mode : Mode) (ids : List Id) (later : Option Out)
      → (later ≡ Some what → CanSend f what) → option_or (requests_due mode ids) later ≡ Some what
      → CanSend f what
  requests_can mode_kind.Batch ids later others e = others e
  requests_can mode_kind.Interactive [] later others e = others e
  requests_can mode_kind.Interactive (id ∷ ids) later others e = let same : out.Requests (id ∷ ids) ≡ what = cc in subst (CanSend f) same tt

  send_can : (o : Option Id) (later : Option Out) → ((id : Id) → o ≡ Some id → is_held f.held id ≡ true) → (later ≡ Some what → CanSend f what)
      → option_or (send_due o) later ≡ Some what → CanSend f what
  send_can None later held others e = others e
  send_can (Some id) later held others e = let same : out.Send id ≡ what = cc in subst (CanSend f) same (held id refl)

  offers_can : (mode : Mode) (ids : List Id) → IsSendable f.held ids → offers_due mode ids ≡ Some what → CanSend f what
  offers_can mode_kind.Batch ids s e = absurd (let none : None ≡ Some what = e in cc)
  offers_can mode_kind.Interactive [] s e = absurd (let none : None ≡ Some what = e in cc)
  offers_can mode_kind.Interactive (id ∷ ids) s e = let same : out.Offers (id ∷ ids) ≡ what = cc in subst (CanSend f) same (s.held_each, s.once)

  sooner_can : (mode : Mode) (first : Option Id) (ids : List Id) → ((id : Id) → first ≡ Some id → is_held f.held id ≡ true) → IsSendable f.held ids
      → sooner_due mode first ids ≡ Some what → CanSend f what
  sooner_can mode_kind.Batch None ids one s e = absurd (let none : None ≡ Some what = e in cc)
  sooner_can mode_kind.Batch (Some id) ids one s e = let same : out.Send id ≡ what = cc in subst (CanSend f) same (one id refl)
  sooner_can mode_kind.Interactive first ids one s e = offers_can mode_kind.Interactive ids s e

-- what is due can be sent
any_way_can : (f : Facts) (shared : List Id) (x : Session) (now : ℕ) (what : Out) → AreApart (map (λ (h : Held). h.id) f.held) → due_on_any_way f shared x now ≡ Some what → CanSend f what
any_way_can f shared x now what apart e =
    acks_can f what (owed_to f x.contact) _ (sendable f.held _ MAX_IDS apart)
    (λ e. requests_can f what x.mode (wanted_of f x.contact) _
    (λ e. send_can f what (send_of f shared x.contact x.mode now) _
    (λ id q. first_held f.held _ id (held_where f.held _ f.held (all_held f.held)) q)
    (λ e. offers_can f what x.mode (offers_of f shared x.contact now) (sendable f.held _ MAX_IDS apart) e) e) e) e

pub due_can : (f : Facts) (shared : List Id) (x : Session) (now : ℕ) (what : Out) → AreApart (map (λ (h : Held). h.id) f.held) → due_by f shared x now ≡ Some what → CanSend f what
due_can f shared x now what apart e =
    elim (option_or-cases (due_on_any_way f shared x now)
    (sooner_due x.mode (sooner_of f shared x.contact x.latency now) (sooner_offers_of f shared x.contact x.latency now)) what e) [
      | inl a ↦ any_way_can f shared x now what apart a
      | inr b ↦
          sooner_can f what x.mode (sooner_of f shared x.contact x.latency now) (sooner_offers_of f shared x.contact x.latency now)
          (λ id q. first_held f.held _ id (held_where f.held _ f.held (all_held f.held)) q) (sendable f.held _ MAX_IDS apart) b
    ]
