-- Sets of arrival numbers, each the list of its numbers.
use Rattle.std.specs.Prelude.{ℕ, Bool, ◌&&◌, List, [], nat_eq, slice_index_or}
use Rattle.std.specs.List.{list_any}

-- a set has a number
abbrev pub has : List ℕ → ℕ → Bool
has numbers n = list_any (λ k. nat_eq k n) numbers

-- how many of the delivered messages stand in the sets of each contact
abbrev pub CursorList : Type 0
CursorList = List ℕ

abbrev pub from_of : CursorList → ℕ → ℕ
from_of cursors contact = slice_index_or cursors contact 0

-- the set of a contact has a number
abbrev pub has_for : List (List ℕ) → ℕ → ℕ → Bool
has_for sets contact n = has (slice_index_or sets contact []) n

-- times, each with the number of a message, have one
abbrev pub has_time : List (ℕ × ℕ) → ℕ → ℕ → Bool
has_time times t n = list_any (λ k. nat_eq k.0 t && nat_eq k.1 n) times

-- the alarms of a contact have a time of a message
abbrev pub has_alarm : List (List (ℕ × ℕ)) → ℕ → ℕ → ℕ → Bool
has_alarm sets contact t n = has_time (slice_index_or sets contact []) t n
