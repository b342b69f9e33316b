-- A link and the moves of what is in flight on it.
use Rattle.std.specs.Prelude.{ℕ, ◌==◌, true, if◌then◌else◌, List, [], ◌++◌, Option, Some, None}
use Rattle.record_grammar.specs.Spelling.{joined}
use Rattle.world_links.specs.declared.moves.Move.{Move}
use Rattle.world_links.specs.declared.moves.Side.{Side}
use Rattle.world_links.specs.declared.moves.Side.TheVariants as side
use Rattle.world_links.specs.declared.link.Link.{Link}
use Rattle.world_links.specs.Ends.{EndValue}
use Rattle.world_links.specs.Moves.{flight_after, given_by}

-- the end of a side, and a link by the end of that side and the other one
abbrev pub side_end : Side → Link → EndValue
side_end side.Near l = l.near
side_end side.Far l = l.far

abbrev pub with_ends : Side → EndValue → EndValue → Link → Link
with_ends side.Near own other l = record l { near = own; far = other }
with_ends side.Far own other l = record l { near = other; far = own }

abbrev pub other : Side → Side
other side.Near = side.Far
other side.Far = side.Near

-- the side of a device, if the link has an end there
abbrev pub side_of : ℕ → Link → Option Side
side_of device l = if l.near.device == device then Some side.Near else if l.far.device == device then Some side.Far else None

-- an end that has these in flight, and one that was given this too
abbrev pub with_flight : List (List ℕ) → EndValue → EndValue
with_flight records e = record e { flight = records }

abbrev pub given_too : List (List ℕ) → EndValue → EndValue
given_too records e = record e { given = e.given ++ joined records }

-- a link after a move of what is in flight from one side
abbrev pub moved : Move → Side → Link → Link
moved how from l =
    with_ends from (with_flight (flight_after how (side_end from l).flight) (side_end from l))
    (given_too (given_by how (side_end from l).flight) (side_end (other from) l)) l

-- a link after all that is in flight from one side arrived
abbrev pub all_carried : Side → Link → Link
all_carried from l = with_ends from (with_flight [] (side_end from l))
    (given_too (side_end from l).flight (side_end (other from) l)) l

-- a link that is cut: what is in flight is dropped
abbrev pub cut : Link → Link
cut l = record { near = with_flight [] l.near; far = with_flight [] l.far; is_cut = true }

-- a link whose end at one side has it no more
abbrev pub detached : EndValue → EndValue
detached e = record e { at = None }

abbrev pub left_from : Option Side → Link → Link
left_from None l = l
left_from (Some side.Near) l = cut (record l { near = detached l.near })
left_from (Some side.Far) l = cut (record l { far = detached l.far })

-- a link that a device has no more
abbrev pub left_by : ℕ → Link → Link
left_by device l = left_from (side_of device l) l
