-- A tree of messages by their arrival numbers.
use Rattle.std.specs.Prelude.{◌≡◌, ℕ, suc, ◌<◌, ◌==◌, cond, List, [], ◌∷◌, ◌++◌, length, Option}
use Rattle.std.specs.Prelude.{None, Some, slice_index_or}
use Rattle.std.specs.Option.{option_map}

-- the arrival numbers of the items, what each replies to, and how many messages are held
pub record ThreadValue : Type 0 where
  pub numbers : List ℕ
  pub parents : List (Option ℕ)
  pub held : ℕ

-- the first item of an arrival number
abbrev pub number_among : List ℕ → ℕ → Option ℕ
number_among [] m = None
number_among (n ∷ ns) m = cond (n == m) (Some 0) (option_map suc (number_among ns m))

abbrev pub parent_among : List ℕ → Option ℕ → Option ℕ
parent_among numbers None = None
parent_among numbers (Some m) = number_among numbers m

-- one more item
abbrev pub with_number : ThreadValue → ℕ → Option ℕ → ThreadValue
with_number t n replied = record t {
  numbers = t.numbers ++ n ∷ [];
  parents = t.parents ++ parent_among t.numbers replied ∷ [];
}

-- the parents and the first items are those of the items, which are held
pub record IsThread (numbers : List ℕ) (parents places : List (Option ℕ)) : Type 0 where
  pub many : length parents ≡ length numbers
  pub each : (m : ℕ) → m < length places → slice_index_or places m None ≡ number_among numbers m
  pub within : (i : ℕ) → i < length numbers → slice_index_or numbers i 0 < length places

-- each item has an arrival number, which is that of a held message
pub record IsNumbered (numbers : List ℕ) (parents : List (Option ℕ)) (held : ℕ) : Type 0 where
  pub many : length parents ≡ length numbers
  pub within : (i : ℕ) → i < length numbers → slice_index_or numbers i 0 < held

-- these are numbers of items
abbrev pub AreItemNumbers : ThreadValue → List ℕ → Type 0
AreItemNumbers t items = (i : ℕ) → i < length items → slice_index_or items i 0 < length t.numbers
