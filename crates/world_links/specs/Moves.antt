-- What may become of the records in flight from an end of a link, by itself.
use Rattle.std.specs.Prelude.{Bool, true, false, List, [], ◌∷◌}
use Rattle.world_links.specs.declared.moves.Move.{Move}
use Rattle.world_links.specs.declared.moves.Move.TheVariants as move

abbrev pub has_first : {A : Type 0} → List A → Bool
has_first [] = false
has_first (r ∷ rs) = true

abbrev pub has_two : {A : Type 0} → List A → Bool
has_two [] = false
has_two (r ∷ rs) = has_first rs

abbrev pub dropped_first : {A : Type 0} → List A → List A
dropped_first [] = []
dropped_first (r ∷ rs) = rs

abbrev pub swapped_next : {A : Type 0} → A → List A → List A
swapped_next r [] = r ∷ []
swapped_next r (t ∷ rs) = t ∷ r ∷ rs

abbrev pub swapped_first : {A : Type 0} → List A → List A
swapped_first [] = []
swapped_first (r ∷ rs) = swapped_next r rs

-- the first, if there is one
abbrev pub first_only : {A : Type 0} → List A → List A
first_only [] = []
first_only (r ∷ rs) = r ∷ []

-- whether there is what moves
abbrev pub is_possible : {A : Type 0} → Move → List A → Bool
is_possible move.Carry rs = has_first rs
is_possible move.Lose rs = has_first rs
is_possible move.Repeat rs = has_first rs
is_possible move.Swap rs = has_two rs

-- what is then in flight
abbrev pub flight_after : {A : Type 0} → Move → List A → List A
flight_after move.Carry rs = dropped_first rs
flight_after move.Lose rs = dropped_first rs
flight_after move.Repeat rs = rs
flight_after move.Swap rs = swapped_first rs

-- what the other end is given
abbrev pub given_by : {A : Type 0} → Move → List A → List A
given_by move.Carry rs = first_only rs
given_by move.Lose rs = []
given_by move.Repeat rs = first_only rs
given_by move.Swap rs = []
