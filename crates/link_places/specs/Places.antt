-- The places of the words of a node that stays, where links come and go. Times and pauses are in
-- milliseconds. A difference of times is 0 where the clock went back.
use Rattle.std.specs.Prelude.{ℕ, ◌-◌, ◌*◌, ◌≤◌, min, Bool, true, false, not, ◌&&◌, ◌==◌}
use Rattle.std.specs.Prelude.{nat_le, if◌then◌else◌, List, set, map, slice_get}
use Rattle.std.specs.Prelude.{position, Option, Some, None}
use Rattle.std.specs.List.{list_any}
use Rattle.link_places.specs.declared.place.Place.{Place}
use Rattle.link_places.specs.declared.place.Stands.{Stands}
use Rattle.link_places.specs.declared.place.Stands.TheVariants as stands
use Rattle.link_places.specs.declared.place.TheConstants.{FIRST_PAUSE, LONGEST_PAUSE, LONG_LIFE}
use Rattle.link_places.specs.declared.place.TheConstants.{IDLE}
use Rattle.link_places.specs.declared.place.Why.{Why}
use Rattle.link_places.specs.declared.place.Why.TheVariants as why

-- ---- one place

-- its pauses are between the first and the longest
pub record IsPlace (p : Place) : Type 0 where
  pub least : FIRST_PAUSE ≤ p.pause
  pub most : p.pause ≤ LONGEST_PAUSE
  pub waits : p.wait ≤ LONGEST_PAUSE

abbrev pub is_up : Stands → Bool
is_up (stands.Up link since heard) = true
is_up _ = false

-- its pause is over
abbrev pub is_over : (now : ℕ) → Place → Bool
is_over now p = nat_le p.wait (now - p.from)

-- a link may come: none is up and no dial is on its way; and where peers come a new one takes the
-- place of one that is up
abbrev pub free_so : (dials : Bool) → Stands → Bool
free_so dials stands.Down = true
free_so dials stands.Tried = false
free_so dials (stands.Up link since heard) = not dials

abbrev pub is_free : Place → Bool
is_free p = free_so p.dials p.stands

-- nothing came for long on the link that is up
abbrev pub silent_so : (now : ℕ) → Stands → Bool
silent_so now (stands.Up link since heard) = nat_le IDLE (now - heard)
silent_so now _ = false

-- and it was dialled: a peer that lost its power is noticed by nothing else
abbrev pub is_idle : (now : ℕ) → Place → Bool
is_idle now p = p.dials && silent_so now p.stands

-- the link that is up has been up for long
abbrev pub lived_long : (now : ℕ) → Stands → Bool
lived_long now (stands.Up link since heard) = nat_le LONG_LIFE (now - since)
lived_long now _ = false

-- the pause behind this one
abbrev pub doubled : ℕ → ℕ
doubled pause = min (2 * pause) LONGEST_PAUSE

-- the pause behind a link, or behind a try that came to none: the first one again behind a long life
abbrev pub next_pause : (now : ℕ) → Place → ℕ
next_pause now p = if lived_long now p.stands then FIRST_PAUSE else p.pause

-- the pause with which a link comes up: longer where it takes the place of one that did not live long
abbrev pub pause_of_next : (now : ℕ) → Place → ℕ
pause_of_next now p =
    if not (is_up p.stands) then p.pause
    else if lived_long now p.stands then FIRST_PAUSE
    else doubled p.pause

-- a dial went out
abbrev pub tried : Place → Place
tried p = record {
  contact = p.contact;
  dials = p.dials;
  stands = stands.Tried;
  from = p.from;
  wait = p.wait;
  pause = p.pause;
  lost = p.lost;
}

-- a link came up
abbrev pub after_up : (link now : ℕ) → Place → Place
after_up link now p = record {
  contact = p.contact;
  dials = p.dials;
  stands = stands.Up link now now;
  from = now;
  wait = pause_of_next now p;
  pause = pause_of_next now p;
  lost = false;
}

-- its link went down, or a try came to none, and it waits
abbrev pub waits : (now : ℕ) (lost : Bool) → Place → Place
waits now lost p = record {
  contact = p.contact;
  dials = p.dials;
  stands = stands.Down;
  from = now;
  wait = next_pause now p;
  pause = doubled (next_pause now p);
  lost = lost;
}

-- the node ended its link, and it need not wait
abbrev pub let_go : Place → Place
let_go p = record {
  contact = p.contact;
  dials = p.dials;
  stands = stands.Down;
  from = p.from;
  wait = 0;
  pause = p.pause;
  lost = p.lost;
}

abbrev pub after_down : (now : ℕ) → Why → Place → Place
after_down now why.Ended p = waits now false p
after_down now why.Redundant p = waits now true p
after_down now why.Era p = let_go p

abbrev pub heard_so : (now : ℕ) → Stands → Stands
heard_so now (stands.Up link since heard) = stands.Up link since now
heard_so now other = other

-- something came on its link
abbrev pub heard_at : (now : ℕ) → Place → Place
heard_at now p = record {
  contact = p.contact;
  dials = p.dials;
  stands = heard_so now p.stands;
  from = p.from;
  wait = p.wait;
  pause = p.pause;
  lost = p.lost;
}

-- ---- all places

-- the places in the order of the words, and whether the journal is full
pub record PlacesValue : Type 0 where
  pub places : List Place
  pub full : Bool

-- a link to this contact is up
abbrev pub has_up : (contact : ℕ) → List Place → Bool
has_up contact places = list_any (λ (q : Place). (q.contact == contact) && is_up q.stands) places

-- it lost its link to another one that is still up
abbrev pub is_spare : List Place → Place → Bool
is_spare places p = p.lost && has_up p.contact places

-- a link may be tried, or a peer let in
abbrev pub may_come : PlacesValue → (now : ℕ) → Option Place → Bool
may_come s now None = false
may_come s now (Some p) =
    not s.full && (is_free p && (is_over now p && not (is_spare s.places p)))

abbrev pub may_try : PlacesValue → (place now : ℕ) → Bool
may_try s place now = may_come s now (slice_get s.places place)

abbrev pub idle_of : (now : ℕ) → Option Place → Bool
idle_of now None = false
idle_of now (Some p) = is_idle now p

-- a link is to be ended for its silence
abbrev pub is_silent : PlacesValue → (place now : ℕ) → Bool
is_silent s place now = idle_of now (slice_get s.places place)

-- one place changes so; there may be none of this number
abbrev pub put_back : (place : ℕ) → (Place → Place) → List Place → Option Place → List Place
put_back place change places None = places
put_back place change places (Some p) = set places place (change p)

abbrev pub changed : (place : ℕ) → (Place → Place) → PlacesValue → PlacesValue
changed place change s = record {
  places = put_back place change s.places (slice_get s.places place);
  full = s.full;
}

-- links that are up go down, since the node ended all its sessions
abbrev pub ended_by_node : Place → Place
ended_by_node p = if is_up p.stands then let_go p else p

abbrev pub after_era : PlacesValue → PlacesValue
after_era s = record { places = map ended_by_node s.places; full = s.full }

abbrev pub is_link : (link : ℕ) → Stands → Bool
is_link link (stands.Up number since heard) = link == number
is_link link _ = false

-- a place where nothing happened yet
abbrev pub fresh : (contact : ℕ) (dials : Bool) → Place
fresh contact dials = record {
  contact = contact;
  dials = dials;
  stands = stands.Down;
  from = 0;
  wait = 0;
  pause = FIRST_PAUSE;
  lost = false;
}

-- the first place where the link of this number is up
abbrev pub place_of : (link : ℕ) → List Place → Option ℕ
place_of link places = position (λ (p : Place). is_link link p.stands) places
