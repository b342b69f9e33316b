-- An end of a link: what contracts see of it, its input, and what it is to hear.
use Rattle.std.specs.Prelude.{ℕ, Bool, true, false, List, [], ◌∷◌, ◌++◌, drop, take, Option, Some, None}
use Rattle.outside.specs.Links.{Planned, piece, pause, close}
use Rattle.world_links.specs.declared.end.TheConstants.{PIECE_LEN}
use Rattle.world_links.specs.Flights.{whole_records}

-- its device; the number that the link has at the device's host, while the device has it; the session that began on it; the
-- records in flight from it; all bytes that it was given, and how many of them were heard; and how many of the bytes that were
-- sent at the host were looked at
pub record EndValue : Type 0 where
  pub device : ℕ
  pub at : Option ℕ
  pub session : Option ℕ
  pub flight : List (List ℕ)
  pub given : List ℕ
  pub heard : ℕ
  pub seen : ℕ

abbrev pub new_end : ℕ → EndValue
new_end device = record { device = device; at = None; session = None; flight = []; given = []; heard = 0; seen = 0 }

-- what is yet to be heard
abbrev pub input_of : EndValue → List ℕ
input_of e = drop e.heard e.given

-- What a link is to answer: the first PIECE_LEN bytes of the input, or all of it where it is shorter; without input the end
-- where the link is cut, and nothing for now where it is not.
abbrev pub answer_to : Bool → List ℕ → List Planned
answer_to true [] = close ∷ []
answer_to false [] = pause ∷ []
answer_to cut (byte ∷ bytes) = piece (take PIECE_LEN (byte ∷ bytes)) ∷ []

-- what was sent since the last look is in flight; on a link that is cut it is dropped
abbrev pub flight_behind : Bool → List ℕ → EndValue → List (List ℕ)
flight_behind true sent e = e.flight
flight_behind false sent e = e.flight ++ whole_records (drop e.seen sent)
