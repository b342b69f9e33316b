-- When a node that stays has to look at its places again.
use Rattle.std.specs.Prelude.{◌≡◌, ℕ, ◌+◌, ◌-◌, ◌^◌, ◌<◌, ◌≤◌, min, not, ◌&&◌}
use Rattle.std.specs.Prelude.{nat_lt, if◌then◌else◌, List, [], ◌∷◌}
use Rattle.std.specs.Prelude.{Option, Some, None}
use Rattle.link_places.specs.declared.place.Place.{Place}
use Rattle.link_places.specs.declared.place.Stands.{Stands}
use Rattle.link_places.specs.declared.place.Stands.TheVariants as stands
use Rattle.link_places.specs.declared.place.TheConstants.{IDLE}
use Rattle.link_places.specs.Places.{PlacesValue, is_free, is_spare, is_silent, may_try}

-- the earlier of two times that may never come
abbrev pub earlier : Option ℕ → Option ℕ → Option ℕ
earlier None other = other
earlier (Some a) None = Some a
earlier (Some a) (Some b) = Some (min a b)

-- no reading of a clock is greater
abbrev pub LAST_TIME : ℕ
LAST_TIME = 2 ^ 64 - 1

-- this long behind a time, where that is yet to come
abbrev pub end_of : (now from long : ℕ) → Option ℕ
end_of now from long = if nat_lt (now - from) long then Some (min (from + long) LAST_TIME) else None

-- the end of a pause that keeps a place from being tried
abbrev pub try_wake : PlacesValue → (now : ℕ) → Place → Option ℕ
try_wake s now p =
    if not s.full && (is_free p && not (is_spare s.places p)) then end_of now p.from p.wait else None

-- the time from which on a dialled link is idle
abbrev pub idle_so : (now : ℕ) → Stands → Option ℕ
idle_so now (stands.Up link since heard) = end_of now heard IDLE
idle_so now _ = None

abbrev pub idle_wake : (now : ℕ) → Place → Option ℕ
idle_wake now p = if p.dials then idle_so now p.stands else None

-- the earliest of this time and of those of these places
abbrev pub wakes : PlacesValue → (now : ℕ) → Option ℕ → List Place → Option ℕ
wakes s now wake [] = wake
wakes s now wake (p ∷ places) =
    wakes s now (earlier wake (earlier (try_wake s now p) (idle_wake now p))) places

abbrev pub next_wake : (now : ℕ) → PlacesValue → Option ℕ
next_wake now s = wakes s now None s.places

-- so long as this time has not come
abbrev pub IsBefore : (time : ℕ) → Option ℕ → Type 0
IsBefore time None = Unit {0}
IsBefore time (Some wake) = time < wake

-- Until the next wake nothing changes by itself: what may be tried, and what is idle, stays so.
abbrev pub WakesInTime : Type 0
WakesInTime = (s : PlacesValue) (now later place : ℕ) → now ≤ later → IsBefore later (next_wake now s)
    → (may_try s place later ≡ may_try s place now) × (is_silent s place later ≡ is_silent s place now)
