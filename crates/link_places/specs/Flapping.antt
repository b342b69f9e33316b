-- A peer that flaps: its links come up, each as soon as its place lets it, and go down again.
use Rattle.std.specs.Prelude.{◌≡◌, ℕ, zero, suc, ◌+◌, ◌-◌, ◌<◌, ◌≤◌, true, false, List, [], ◌∷◌, length}
use Rattle.link_places.specs.declared.place.Place.{Place}
use Rattle.link_places.specs.declared.place.TheConstants.{LONG_LIFE}
use Rattle.link_places.specs.declared.place.Why.TheVariants as why
use Rattle.link_places.specs.Places.{IsPlace, after_down, after_up, doubled, is_over, is_up}

-- a link of a peer: its number, and when it came up and went down
pub record Flap : Type 0 where
  pub link : ℕ
  pub up : ℕ
  pub down : ℕ

-- a place behind a link
abbrev pub after_flap : Flap → Place → Place
after_flap flap p = after_down flap.down why.Ended (after_up flap.link flap.up p)

-- each of these links came up where the pause of the place was over, and went down before it had
-- been up for long
abbrev pub AreFlaps : Place → List Flap → Type 0
AreFlaps p [] = Unit {0}
AreFlaps p (flap ∷ flaps) = (is_over flap.up p ≡ true) × (p.from ≤ flap.up) × (flap.up ≤ flap.down)
    × (flap.down - flap.up < LONG_LIFE) × AreFlaps (after_flap flap p) flaps

-- the pauses behind so many links, of which the first has this one
abbrev pub pauses : (links pause : ℕ) → ℕ
pauses zero pause = 0
pauses (suc links) pause = pause + pauses links (doubled pause)

-- when the last of the links came up
abbrev pub last_up : Flap → List Flap → ℕ
last_up flap [] = flap.up
last_up flap (next ∷ flaps) = last_up next flaps

-- however often a peer flaps, its links come up no closer than the pauses: 1, 2, 4 .. 64 seconds,
-- and 64 seconds from then on
abbrev pub FlapsArePaced : Type 0
FlapsArePaced = (p : Place) (flap : Flap) (flaps : List Flap) → IsPlace p → is_up p.stands ≡ false
    → AreFlaps p (flap ∷ flaps)
    → flap.up + pauses (length flaps) p.pause ≤ last_up flap flaps
