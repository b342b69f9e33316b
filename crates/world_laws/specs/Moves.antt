-- What may become of the records in flight on a link, by itself: the first is carried to the other end, lost, or carried and
-- kept, the first two change places, or the link is cut.
use Rattle.std.specs.Prelude.{ℕ, zero, suc, Bool, true, false, List, [], ◌∷◌, ◌++◌}
use Rattle.sync_ids.specs.declared.records.Record.{Record}
use Rattle.world_laws.specs.Worlds.{End, WorldLink, World}

pub data Move : Type 0 where
  Carry : Move
  Lose : Move
  Repeat : Move
  Swap : Move
  Cut : Move

-- what is then in flight from an end
abbrev pub flight_then : Move → List Record → List Record
flight_then Carry [] = []
flight_then Carry (r ∷ rs) = rs
flight_then Lose [] = []
flight_then Lose (r ∷ rs) = rs
flight_then Repeat rs = rs
flight_then Swap [] = []
flight_then Swap (r ∷ []) = r ∷ []
flight_then Swap (r ∷ t ∷ rs) = t ∷ r ∷ rs
flight_then Cut rs = []

abbrev pub first_of : List Record → List Record
first_of [] = []
first_of (r ∷ rs) = r ∷ []

-- what the other end is given
abbrev pub records_given : Move → List Record → List Record
records_given Carry rs = first_of rs
records_given Repeat rs = first_of rs
records_given _ rs = []

abbrev pub sender_after : Move → End → End
sender_after move e = record e { flight = flight_then move e.flight }

abbrev pub receiver_after : Move → List Record → End → End
receiver_after move flight e = record e { given = e.given ++ records_given move flight }

-- the end that did not send: a cut drops what is in flight from it too
abbrev pub other_after : Move → End → End
other_after Cut e = record e { flight = [] }
other_after _ e = e

-- a link after a move of what is in flight from its near end, or from its far one
abbrev pub link_after_move : Move → Bool → WorldLink → WorldLink
link_after_move move true l =
    record {
      near = sender_after move l.near;
      far = other_after move (receiver_after move l.near.flight l.far);
    }
link_after_move move false l =
    record {
      near = other_after move (receiver_after move l.far.flight l.near);
      far = sender_after move l.far;
    }

-- the link of a number changed
abbrev pub links_after_move : Move → Bool → ℕ → List WorldLink → List WorldLink
links_after_move move near i [] = []
links_after_move move near zero (l ∷ ls) = link_after_move move near l ∷ ls
links_after_move move near (suc i) (l ∷ ls) = l ∷ links_after_move move near i ls

-- a world after a move on one of its links
abbrev pub world_after : Move → Bool → ℕ → World → World
world_after move near i w = record w { links = links_after_move move near i w.links }
