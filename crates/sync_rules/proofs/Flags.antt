-- Facts that are set once: an entry of a legal journal sets one only where it is not set.
use Rattle.std.proofs.Common.{◌≡◌, ℕ, ◌+◌, ◌≤◌, Bool, true, false, cond, ◌&&◌, ◌||◌, List, [], ◌∷◌, ◌++◌, refl, sym, ◌∙◌, ap, subst, arith, Some, None, is_some, count_by}
use Rattle.std.specs.List.{list_any}
use Rattle.std.specs.FinSet as fin_set
use Rattle.std.specs.Cmp.Lexicographic.{slice_cmp}
use Rattle.std.specs.Ordering.{nat_cmp}
use Rattle.std.proofs.lemmas.Bool.{false≢true, and_parts, and_from}
use Rattle.sync_rules.specs.declared.entries.Entry.{Entry}
use Rattle.sync_rules.specs.declared.entries.Entry.TheVariants as entry
use Rattle.sync_ids.specs.Ids.{message_id_of}
use Rattle.sync_rules.specs.Clients.{Meaning}
use Rattle.sync_rules.specs.Lists.{same_id, is_among}
use Rattle.sync_rules.specs.Facts.{Facts, Held, Id, after, after_all, nothing, entries_of, held_at, is_held, authored, arrived, kept_as, contact_of}
use Rattle.sync_rules.specs.Steps.{is_ended, is_served, is_beside}
use Rattle.sync_rules.specs.Legal.{Legal}
use Rattle.sync_rules.specs.EntryTests.{brings, judges, delivers, invalidates, ends}
use Rattle.sync_rules.specs.Laws.{BringsOnce, JudgesOnce, EndsOnce, IsInOrder}
use Rattle.sync_rules.proofs.Elements.{same_id-is, among-push, tally, tally-is, all_weaker}
use Rattle.sync_rules.proofs.StepLaws.{Judges, first_step_some, told_some}
use Rattle.sync_rules.proofs.Sound.{SoundFacts, contains-more}
use Rattle.sync_rules.proofs.Kept.{Fits, AllFit, AllFit_front, AllFit_back, IsDelivery, delivery, refusal, sound_all}
use Rattle.sync_rules.proofs.Runs.{legal_fits, sound_nothing}

-- a fact that some entries set, and that stays
abbrev pub IsScan : (Entry → Bool) → (Facts → Bool) → Type 0
IsScan sets flag = (f : Facts) (e : Entry) → flag (after f e) ≡ (sets e || flag f)

-- after all entries it is set where one of them set it or it was set before
pub scanned : (sets : Entry → Bool) (flag : Facts → Bool) → IsScan sets flag → (f : Facts) (es : List Entry)
    → flag (after_all f es) ≡ (list_any sets es || flag f)
scanned sets flag one f [] = refl
scanned sets flag one f (e ∷ es) =
    scanned sets flag one (after f e) es ∙ (ap (λ b. list_any sets es || b) (one f e) ∙ regroup (list_any sets es) (sets e) (flag f))
  where
    regroup : (a b c : Bool) → (a || (b || c)) ≡ ((b || a) || c)
    regroup true true c = refl
    regroup true false c = refl
    regroup false true c = refl
    regroup false false c = refl

pub record IsFlag (clients : Meaning) (sets : Entry → Bool) (flag : Facts → Bool) : Type 0 where
  pub one : IsScan sets flag
  pub fresh : (f : Facts) (e : Entry) → Fits clients f e → sets e ≡ true → flag f ≡ false

-- how many entries can still set it
abbrev room : Bool → ℕ
room true = 0
room false = 1

set_within : (clients : Meaning) (sets : Entry → Bool) (flag : Facts → Bool) → IsFlag clients sets flag → (f : Facts) (es : List Entry)
    → AllFit clients f es → tally sets es ≤ room (flag f)
set_within clients sets flag is f [] fit = omega arith
set_within clients sets flag is f (e ∷ es) fit =
    let rest = set_within clients sets flag is (after f e) es fit.1 in
    elim (sets e) as (λ b. sets e ≡ b → cond b (1 + tally sets es) (tally sets es) ≤ room (flag f)) [
      | true ↦ λ s.
          let before : flag f ≡ false = is.fresh f e fit.0 s in
          let behind : flag (after f e) ≡ true = is.one f e ∙ ap (λ b. b || flag f) s in
          let none : tally sets es ≤ 0 = subst (λ b. tally sets es ≤ room b) behind rest in
          let P : Bool → Type 0 = λ b. 1 + tally sets es ≤ room b in
          let m : P false = omega (arith, none) in
          subst P (sym before) m
      | false ↦ λ s. subst (λ b. tally sets es ≤ room b) (is.one f e ∙ ap (λ b. b || flag f) s) rest
    ] refl

set_once : (clients : Meaning) (sets : Entry → Bool) (flag : Facts → Bool) → IsFlag clients sets flag → (es : List Entry)
    → AllFit clients nothing es → count_by sets es ≤ 1
set_once clients sets flag is es fit =
    let within = set_within clients sets flag is nothing es fit in
    let few : tally sets es ≤ 1 = elim (flag nothing) as (λ b. tally sets es ≤ room b → tally sets es ≤ 1) [
      | true ↦ λ h. omega (arith, h)
      | false ↦ λ h. h
    ] within in
    subst (λ (n : ℕ). n ≤ 1) (tally-is sets es) few

-- ---- the flags

pub is_held-push : (held : List Held) (x : Held) (id : Id) → is_held (held ++ x ∷ []) id ≡ (same_id x.id id || is_held held id)
is_held-push [] x id =
    elim (same_id x.id id) as (λ b. is_some (cond b (Some x) None) ≡ (b || false)) [ true ↦ refl | false ↦ refl ]
is_held-push (y ∷ held) x id =
    elim (same_id y.id id) as (λ b. is_some (cond b (Some y) (held_at (held ++ x ∷ []) id)) ≡ (same_id x.id id || is_some (cond b (Some y) (held_at held id)))) [
      | true ↦ elim (same_id x.id id) as (λ b. true ≡ (b || true)) [ true ↦ refl | false ↦ refl ]
      | false ↦ is_held-push held x id
    ]

pub held_scan : (id : Id) → IsScan (brings id) (λ f. is_held f.held id)
held_scan id f (entry.Author m) = is_held-push f.held (authored m) id
held_scan id f (entry.Arrive s m) = is_held-push f.held (arrived (contact_of f.sessions s) m) id
held_scan id f (entry.Kept from m) = is_held-push f.held (kept_as from m) id
held_scan id f _ = refl

pub judged_scan : (id : Id) → IsScan (judges id) (λ f. fin_set.contains f.judged id)
judged_scan id f (entry.Judged x) = contains-more f.judged x id
judged_scan id f _ = refl

pub invalid_scan : (id : Id) → IsScan (invalidates id) (λ f. fin_set.contains f.invalid id)
invalid_scan id f (entry.Invalid x) = contains-more f.invalid x id
invalid_scan id f _ = refl

pub delivered_scan : (id : Id) → IsScan (delivers id) (λ f. is_among f.delivered id)
delivered_scan id f (entry.Deliver x) = among-push f.delivered x id
delivered_scan id f _ = refl

pub ended_scan : (id : Id) → IsScan (ends id) (λ f. is_ended f id)
ended_scan id f e =
    (λ i. delivered_scan id f e i || invalid_scan id f e i)
    ∙ regroup (delivers id e) (is_among f.delivered id) (invalidates id e) (fin_set.contains f.invalid id)
  where
    regroup : (a b c d : Bool) → ((a || b) || (c || d)) ≡ ((a || c) || (b || d))
    regroup true b c d = refl
    regroup false true true d = refl
    regroup false true false d = refl
    regroup false false c d = refl

-- ---- they are set where they are not set

at_id : (F : Id → Bool) (x id : Id) → same_id x id ≡ true → F x ≡ false → F id ≡ false
at_id F x id e none = subst (λ (w : Id). F w ≡ false) (same_id-is x id e) none

held_fresh : (clients : Meaning) (id : Id) (f : Facts) (e : Entry) → Fits clients f e → brings id e ≡ true → is_held f.held id ≡ false
held_fresh clients id f (entry.Author m) fit b = at_id (is_held f.held) (message_id_of m) id b fit.new
held_fresh clients id f (entry.Arrive s m) fit b = at_id (is_held f.held) (message_id_of m) id b fit.is_new.new
held_fresh clients id f (entry.Kept from m) fit b = at_id (is_held f.held) (message_id_of m) id b fit.new
held_fresh clients id f _ fit b = absurd (false≢true b)

judged_fresh : (clients : Meaning) (id : Id) (f : Facts) (e : Entry) → Fits clients f e → judges id e ≡ true → fin_set.contains f.judged id ≡ false
judged_fresh clients id f (entry.Judged x) fit b =
    let s = first_step_some clients f f.held (entry.Judged x) fit in
    let t : Judges f s.of x = told_some clients f s.of (Some (entry.Judged x)) s.steps in
    at_id (fin_set.contains f.judged) x id b (ap (fin_set.contains f.judged) t.same ∙ t.unjudged)
judged_fresh clients id f _ fit b = absurd (false≢true b)

or_false : (b : Bool) → (b || false) ≡ true → b ≡ true
or_false true h = refl
or_false false h = h

ended_fresh : (clients : Meaning) (id : Id) (f : Facts) (e : Entry) → Fits clients f e → ends id e ≡ true → is_ended f id ≡ false
ended_fresh clients id f (entry.Deliver x) fit b =
    let d = delivery clients f x fit in
    at_id (is_ended f) x id (or_false (same_id x id) b) (ap (is_ended f) d.same ∙ d.delivers.still_open.no_end)
ended_fresh clients id f (entry.Invalid x) fit b =
    let d = refusal clients f x fit in
    at_id (is_ended f) x id b (ap (is_ended f) d.same ∙ d.invalidates.still_open.no_end)
ended_fresh clients id f _ fit b = absurd (false≢true b)

pub held_flag : (clients : Meaning) (id : Id) → IsFlag clients (brings id) (λ f. is_held f.held id)
held_flag clients id = record { one = held_scan id; fresh = held_fresh clients id }

pub judged_flag : (clients : Meaning) (id : Id) → IsFlag clients (judges id) (λ f. fin_set.contains f.judged id)
judged_flag clients id = record { one = judged_scan id; fresh = judged_fresh clients id }

pub ended_flag : (clients : Meaning) (id : Id) → IsFlag clients (ends id) (λ f. is_ended f id)
ended_flag clients id = record { one = ended_scan id; fresh = ended_fresh clients id }

-- ---- once

pub brings_once : (clients : Meaning) (j : List (List Entry)) → Legal clients j → BringsOnce j
brings_once clients j l id = set_once clients (brings id) (λ f. is_held f.held id) (held_flag clients id) (entries_of j) (legal_fits clients j l)

pub judges_once : (clients : Meaning) (j : List (List Entry)) → Legal clients j → JudgesOnce j
judges_once clients j l id = set_once clients (judges id) (λ f. fin_set.contains f.judged id) (judged_flag clients id) (entries_of j) (legal_fits clients j l)

pub ends_once : (clients : Meaning) (j : List (List Entry)) → Legal clients j → EndsOnce j
ends_once clients j l id = set_once clients (ends id) (λ f. is_ended f id) (ended_flag clients id) (entries_of j) (legal_fits clients j l)

-- ---- order

-- what is set after some entries came with one of them
came_with : (sets : Entry → Bool) (flag : Facts → Bool) → IsScan sets flag → flag nothing ≡ false → (es : List Entry) → flag (after_all nothing es) ≡ true → list_any sets es ≡ true
came_with sets flag one none es is =
    let e : flag (after_all nothing es) ≡ (list_any sets es || flag nothing) = scanned sets flag one nothing es in
    or_false (list_any sets es) (ap (λ b. list_any sets es || b) (sym none) ∙ (sym e ∙ is))

pub delivers_in_order : (clients : Meaning) (j : List (List Entry)) → Legal clients j → IsInOrder clients j
delivers_in_order clients j l before behind id stands =
    let fit : AllFit clients nothing (before ++ entry.Deliver id ∷ behind) = subst (AllFit clients nothing) stands (legal_fits clients j l) in
    let f : Facts = after_all nothing before in
    let back : AllFit clients f (entry.Deliver id ∷ behind) = AllFit_back clients nothing before (entry.Deliver id ∷ behind) fit in
    let s : SoundFacts clients f = sound_all clients nothing before (AllFit_front clients nothing before (entry.Deliver id ∷ behind) fit) (sound_nothing clients) in
    let d : IsDelivery clients f id = delivery clients f id back.0 in
    let accepted = d.delivers.accepted in
    record {
      message = d.of;
      held = ap (held_at f.held) d.same ∙ s.names d.of d.inside;
      judged = came_with (judges id) (λ f. fin_set.contains f.judged id) (judged_scan id) (fin_set.contains-empty (slice_cmp nat_cmp) id) before
          (ap (fin_set.contains f.judged) d.same ∙ d.delivers.still_open.judged);
      deps = accepted.deps;
      share = accepted.share;
      accepted = accepted.verdict;
      served = all_weaker (is_served f d.of.message.group) (λ x. is_beside d.of.message.group (held_at f.held x) && list_any (delivers x) before)
          (λ x t. let both = and_parts (is_beside d.of.message.group (held_at f.held x)) (is_among f.delivered x) t in
          and_from (is_beside d.of.message.group (held_at f.held x)) (list_any (delivers x) before) both.0
          (came_with (delivers x) (λ f. is_among f.delivered x) (delivered_scan x) refl before both.1))
          accepted.deps d.delivers.served;
    }
