-- Each move of what is in flight is a step of the world.
use Rattle.std.proofs.Common.{ℕ, zero, suc, Bool, true, false, ◌⊎◌, List, [], ◌∷◌, ◌++◌, append-nil, refl, sym, inl, inr, Option, Some, None}
use Rattle.sync_ids.specs.declared.records.Record.{Record}
use Rattle.sync_rules.specs.Clients.{Meaning}
use Rattle.sync_rules.specs.Lists.{In}
use Rattle.sync_rules.specs.Facts.{Journal}
use Rattle.sync_rules.proofs.Elements.{In-append_cases}
use Rattle.world_laws.specs.Worlds.{End, IsStep, WorldLink, Way, WayRuns, WaysRun, World}
use Rattle.world_laws.specs.Worlds.{journal_at, link_in, way_in, way_of}
use Rattle.world_laws.specs.Moves.{Carry, Cut, Lose, Move, Repeat, Swap, first_of, flight_then}
use Rattle.world_laws.specs.Moves.{records_given, link_after_move, links_after_move, other_after}
use Rattle.world_laws.specs.Moves.{receiver_after, sender_after, world_after}

flight_before : (move : Move) (rs : List Record) (r : Record) → In r (flight_then move rs) → In r rs
flight_before Carry [] r inside = inside
flight_before Carry (x ∷ rs) r inside = inr inside
flight_before Lose [] r inside = inside
flight_before Lose (x ∷ rs) r inside = inr inside
flight_before Repeat rs r inside = inside
flight_before Swap [] r inside = inside
flight_before Swap (x ∷ []) r inside = inside
flight_before Swap (x ∷ t ∷ rs) r inside =
    elim inside [ inl e ↦ inr (inl e) | inr later ↦ elim later [ inl e ↦ inl e | inr rest ↦ inr (inr rest) ] ]
flight_before Cut rs r inside = absurd inside

first_there : (rs : List Record) (r : Record) → In r (first_of rs) → In r rs
first_there [] r inside = inside
first_there (x ∷ rs) r inside = elim inside [ inl e ↦ inl e | inr none ↦ absurd none ]

given_there : (move : Move) (rs : List Record) (r : Record) → In r (records_given move rs) → In r rs
given_there Carry rs r inside = first_there rs r inside
given_there Lose rs r inside = absurd inside
given_there Repeat rs r inside = first_there rs r inside
given_there Swap rs r inside = absurd inside
given_there Cut rs r inside = absurd inside

given_before : (move : Move) (given rs : List Record) (r : Record)
    → In r (given ++ records_given move rs) → In r given ⊎ In r rs
given_before move given rs r inside =
    elim (In-append_cases r given (records_given move rs) inside)
    [ inl was ↦ inl was | inr new ↦ inr (given_there move rs r new) ]

-- the way of a move
sends_on : (d : ℕ) (j : Journal) (move : Move) (s r : End)
    → WayRuns d j (record { sender = s; receiver = r }) (record { sender = sender_after move s; receiver = other_after move (receiver_after move s.flight r) })
sends_on d j Cut s r = record {
  sender = refl;
  receiver = refl;
  session = inl refl;
  flight = λ x inside. inl (flight_before Cut s.flight x inside);
  given = λ x inside. given_before Cut r.given s.flight x inside;
}
sends_on d j Carry s r = record {
  sender = refl;
  receiver = refl;
  session = inl refl;
  flight = λ x inside. inl (flight_before Carry s.flight x inside);
  given = λ x inside. given_before Carry r.given s.flight x inside;
}
sends_on d j Lose s r = record {
  sender = refl;
  receiver = refl;
  session = inl refl;
  flight = λ x inside. inl (flight_before Lose s.flight x inside);
  given = λ x inside. given_before Lose r.given s.flight x inside;
}
sends_on d j Repeat s r = record {
  sender = refl;
  receiver = refl;
  session = inl refl;
  flight = λ x inside. inl (flight_before Repeat s.flight x inside);
  given = λ x inside. given_before Repeat r.given s.flight x inside;
}
sends_on d j Swap s r = record {
  sender = refl;
  receiver = refl;
  session = inl refl;
  flight = λ x inside. inl (flight_before Swap s.flight x inside);
  given = λ x inside. given_before Swap r.given s.flight x inside;
}

-- the other way of its link
sends_back : (d : ℕ) (j : Journal) (move : Move) (s r : End)
    → WayRuns d j (record { sender = r; receiver = s }) (record { sender = other_after move (receiver_after move s.flight r); receiver = sender_after move s })
sends_back d j Cut s r = record { sender = refl; receiver = refl; session = inl refl; flight = λ x inside. absurd inside; given = λ x inside. inl inside }
sends_back d j _ s r = record { sender = refl; receiver = refl; session = inl refl; flight = λ x inside. inl inside; given = λ x inside. inl inside }

way_moves : (d : ℕ) (j : Journal) (move : Move) (near side : Bool) (l : WorldLink)
    → WayRuns d j (way_of side l) (way_of side (link_after_move move near l))
way_moves d j move true true l = sends_on d j move l.near l.far
way_moves d j move true false l = sends_back d j move l.near l.far
way_moves d j move false true l = sends_back d j move l.far l.near
way_moves d j move false false l = sends_on d j move l.far l.near

way_stays : (d : ℕ) (j : Journal) (way : Way) → WayRuns d j way way
way_stays d j way = record { sender = refl; receiver = refl; session = inl refl; flight = λ x inside. inl inside; given = λ x inside. inl inside }

ways_stay : (d : ℕ) (j : Journal) (side : Bool) (o : Option WorldLink) → WaysRun d j (way_in side o) (way_in side o)
ways_stay d j side None = tt
ways_stay d j side (Some l) = way_stays d j (way_of side l)

ways_move : (d : ℕ) (j : Journal) (move : Move) (near : Bool) (i : ℕ) (links : List WorldLink) (k : ℕ) (side : Bool)
    → WaysRun d j (way_in side (link_in links k))
    (way_in side (link_in (links_after_move move near i links) k))
ways_move d j move near i [] k side = tt
ways_move d j move near zero (l ∷ ls) zero side = way_moves d j move near side l
ways_move d j move near zero (l ∷ ls) (suc k) side = ways_stay d j side (link_in ls k)
ways_move d j move near (suc i) (l ∷ ls) zero side = way_stays d j (way_of side l)
ways_move d j move near (suc i) (l ∷ ls) (suc k) side = ways_move d j move near i ls k side

pub move_is_step : (clients : Meaning) (w : World) (move : Move) (near : Bool) (i : ℕ) → IsStep clients w (world_after move near i w)
move_is_step clients w move near i = inl (
  0,
  record {
    more = [];
    goes_on = sym (append-nil (journal_at w 0));
    allowed = tt;
    plain = refl;
    others = λ e other. refl;
    heard = λ session. [];
    all_heard = tt;
    was_given = λ session r inside. absurd inside;
    ways = λ k side. ways_move 0 (journal_at w 0) move near i w.links k side;
  },
)
