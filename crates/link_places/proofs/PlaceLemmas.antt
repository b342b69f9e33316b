-- What holds of places.
use Rattle.std.proofs.Common.{◌≡◌, ℕ, zero, suc, ◌+◌, ◌-◌, ◌<◌, ◌≤◌, Bool, true, false, cond, not, ◌&&◌, nat_le, nat_lt, List, [], ◌∷◌, length, map, set, get_or, slice_get, refl, sym, ◌∙◌, ap, subst, arith, add-one, le-leb, min, Option, Some, None}
use Rattle.std.proofs.lemmas.Bool.{leb-true, leb-false, lt-leb, ltb-true}
use Rattle.link_places.specs.declared.place.Place.{Place}
use Rattle.link_places.specs.declared.place.Stands.{Stands}
use Rattle.link_places.specs.declared.place.Stands.TheVariants as stands
use Rattle.link_places.specs.declared.place.TheConstants.{FIRST_PAUSE, LONG_LIFE, IDLE}
use Rattle.link_places.specs.Places.{PlacesValue, after_up, doubled, ended_by_node, idle_of, is_free, is_over, is_spare, is_up, lived_long, may_come, next_pause, pause_of_next, silent_so}
use Rattle.link_places.specs.Waking.{IsBefore, LAST_TIME, WakesInTime, earlier, end_of, idle_so, idle_wake, next_wake, try_wake, wakes}
use Rattle.link_places.specs.Flapping.{AreFlaps, Flap, FlapsArePaced, after_flap, last_up, pauses}

-- ---- a peer that flaps

-- the first link behind another comes up with the pause of its place
up_pause : (p : Place) (now : ℕ) → is_up p.stands ≡ false → pause_of_next now p ≡ p.pause
up_pause p now down = ap (λ b. cond (not b) p.pause (cond (lived_long now p.stands) FIRST_PAUSE (doubled p.pause))) down

paced : (p : Place) (flap : Flap) (flaps : List Flap) → is_up p.stands ≡ false → AreFlaps p (flap ∷ flaps)
    → flap.up + pauses (length flaps) p.pause ≤ last_up flap flaps
paced p flap [] down are = omega arith
paced p flap (next ∷ flaps) down are =
    let rest : AreFlaps (after_flap flap p) (next ∷ flaps) = are.4 in
    let short : flap.down - flap.up < LONG_LIFE = are.3 in
    let order : flap.up ≤ flap.down = are.2 in
    let later : flap.down ≤ next.up = rest.1 in
    let behind : next_pause flap.down (after_up flap.link flap.up p) ≡ p.pause =
    ap (λ b. cond b FIRST_PAUSE (pause_of_next flap.up p)) (lt-leb LONG_LIFE (flap.down - flap.up) short) ∙ up_pause p flap.up down in
    let waits : next_pause flap.down (after_up flap.link flap.up p) ≤ next.up - flap.down = leb-true _ _ rest.0 in
    let waited : p.pause ≤ next.up - flap.down = subst (λ n. n ≤ next.up - flap.down) behind waits in
    let after : next.up + pauses (length flaps) (doubled (next_pause flap.down (after_up flap.link flap.up p))) ≤ last_up next flaps =
    paced (after_flap flap p) next flaps refl rest in
    let last : next.up + pauses (length flaps) (doubled p.pause) ≤ last_up next flaps =
    subst (λ n. next.up + pauses (length flaps) (doubled n) ≤ last_up next flaps) behind after in
    omega arith

pub flaps_paced : FlapsArePaced
flaps_paced p flap flaps within down are = paced p flap flaps down are

-- ---- nothing changes before the next wake

-- whether so much time is over
over_by : (now later from long : ℕ) → now ≤ later → (b : Bool) → nat_lt (now - from) long ≡ b
    → IsBefore later (cond b (Some (min (from + long) LAST_TIME)) None) → nat_le long (later - from) ≡ nat_le long (now - from)
over_by now later from long order true yet before =
    let few : now - from < long = ltb-true (now - from) long yet in
    let soon : later < from + long = omega (arith, before) in
    let still : later - from < long = omega arith in
    lt-leb long (later - from) still ∙ sym (lt-leb long (now - from) few)
over_by now later from long order false yet before =
    let over : long < suc (now - from) = leb-false (suc (now - from)) long yet in
    let now_over : long ≤ now - from = omega arith in
    let later_over : long ≤ later - from = omega arith in
    le-leb long (later - from) later_over ∙ sym (le-leb long (now - from) now_over)

over_so : (now later from long : ℕ) → now ≤ later → IsBefore later (end_of now from long)
    → nat_le long (later - from) ≡ nat_le long (now - from)
over_so now later from long order before = over_by now later from long order (nat_lt (now - from) long) refl before

-- the earlier of two times has not come where neither has
both_before : (later : ℕ) (a b : Option ℕ) → IsBefore later (earlier a b) → IsBefore later a × IsBefore later b
both_before later None b before = (tt, before)
both_before later (Some x) None before = (before, tt)
both_before later (Some x) (Some y) before = (omega (arith, before), omega (arith, before))

first_before : (s : PlacesValue) (now later : ℕ) (wake : Option ℕ) (places : List Place)
    → IsBefore later (wakes s now wake places) → IsBefore later wake
first_before s now later wake [] before = before
first_before s now later wake (p ∷ places) before =
    (both_before later wake (earlier (try_wake s now p) (idle_wake now p))
    (first_before s now later (earlier wake (earlier (try_wake s now p) (idle_wake now p))) places before)).0

each_before : (s : PlacesValue) (now later : ℕ) (wake : Option ℕ) (places : List Place) (place : ℕ) (p : Place)
    → slice_get places place ≡ Some p → IsBefore later (wakes s now wake places)
    → IsBefore later (earlier (try_wake s now p) (idle_wake now p))
each_before s now later wake [] place p at before = absurd (let e : None ≡ Some p = at in cc)
each_before s now later wake (q ∷ places) zero p at before =
    let is : q ≡ p = cc in
    subst (λ q. IsBefore later (earlier (try_wake s now q) (idle_wake now q))) is
    (both_before later wake (earlier (try_wake s now q) (idle_wake now q))
    (first_before s now later (earlier wake (earlier (try_wake s now q) (idle_wake now q))) places before)).1
each_before s now later wake (q ∷ places) (suc place) p at before =
    each_before s now later (earlier wake (earlier (try_wake s now q) (idle_wake now q))) places place p at before

-- what may be tried: its pause decides, where all else lets it
come_by : (full free spare x y : Bool) (wake : Option ℕ) (later : ℕ)
    → (IsBefore later wake → x ≡ y) → IsBefore later (cond (not full && (free && not spare)) wake None)
    → (not full && (free && (x && not spare))) ≡ (not full && (free && (y && not spare)))
come_by true free spare x y wake later same before = refl
come_by false false spare x y wake later same before = refl
come_by false true true true true wake later same before = refl
come_by false true true true false wake later same before = refl
come_by false true true false true wake later same before = refl
come_by false true true false false wake later same before = refl
come_by false true false x y wake later same before = ap (λ b. b && true) (same before)

idle_by : (now later : ℕ) → now ≤ later → (dials : Bool) (so : Stands) → IsBefore later (cond dials (idle_so now so) None)
    → (dials && silent_so later so) ≡ (dials && silent_so now so)
idle_by now later order false so before = refl
idle_by now later order true stands.Down before = refl
idle_by now later order true stands.Tried before = refl
idle_by now later order true (stands.Up link since heard) before = over_so now later heard IDLE order before

module _ (s : PlacesValue) (now later place : ℕ) (order : now ≤ later) (before : IsBefore later (next_wake now s)) where
  abbrev Still : Option Place → Type 0
  Still at = (may_come s later at ≡ may_come s now at) × (idle_of later at ≡ idle_of now at)

  still : (at : Option Place) → slice_get s.places place ≡ at → Still at
  still None is = (refl, refl)
  still (Some p) is =
      let both = both_before later (try_wake s now p) (idle_wake now p) (each_before s now later None s.places place p is before) in (
        come_by s.full (is_free p) (is_spare s.places p) (is_over later p) (is_over now p) (end_of now p.from p.wait) later
            (over_so now later p.from p.wait order) both.0,
        idle_by now later order p.dials p.stands both.1,
      )

pub waking_in_time : WakesInTime
waking_in_time s now later place order before = still s now later place order before (slice_get s.places place) refl

-- ---- an era that ends, place by place

-- the first places without their links
abbrev pub ended : ℕ → List Place → List Place
ended zero places = places
ended (suc n) [] = []
ended (suc n) (p ∷ places) = ended_by_node p ∷ ended n places

pub ended_all : (places : List Place) → ended (length places) places ≡ map ended_by_node places
ended_all [] = refl
ended_all (p ∷ places) = ap (λ l. ended_by_node p ∷ l) (ended_all places)

pub ended_length : (n : ℕ) (places : List Place) → length (ended n places) ≡ length places
ended_length zero places = refl
ended_length (suc n) [] = refl
ended_length (suc n) (p ∷ places) = ap suc (ended_length n places)

ended_by : (n : ℕ) (places : List Place) (d : Place) → n < length places
    → set (ended n places) n (ended_by_node (get_or (ended n places) n d)) ≡ ended (suc n) places
ended_by n [] d less = absurd (let no : n < 0 = less in omega arith)
ended_by zero (p ∷ places) d less = refl
ended_by (suc n) (p ∷ places) d less =
    let few : n < length places = omega (arith, less) in
    ap (λ l. ended_by_node p ∷ l) (ended_by n places d few)

pub ended_next : (n : ℕ) (places : List Place) (d : Place) → n < length places
    → set (ended n places) n (ended_by_node (get_or (ended n places) n d)) ≡ ended (n + 1) places
ended_next n places d less = ended_by n places d less ∙ ap (λ m. ended m places) (sym (add-one n))
