-- Which places are in a set, and how the set lies in words of 64 bits.
use Rattle.std.specs.Prelude.{◌≡◌, ℕ, zero, suc, ◌+◌, ◌*◌, ◌/◌, ◌%◌, ◌^◌, ◌≤◌, eqb, cond, Bool, false, List, [], ◌∷◌, length, drop, Option, None, Some, slice_index_or}
use Rattle.std.specs.Int.{bit_at}
use Rattle.std.specs.List.{position_from}

-- the least place from `from` on that is in the set
abbrev pub next_set : ℕ → List Bool → Option ℕ
next_set from places = position_from (λ is_in. is_in) from (drop from places)

-- a word: past the last one 0
abbrev pub word_at : List ℕ → ℕ → ℕ
word_at words word = slice_index_or words word 0

-- whether the bit of a place is set
abbrev pub has : List ℕ → ℕ → Bool
has words place = eqb (bit_at (word_at words (place / 64)) (place % 64)) 1

-- so many places, the first of them that one
abbrev pub places_from : List ℕ → ℕ → ℕ → List Bool
places_from words place zero = []
places_from words place (suc more) = has words place ∷ places_from words (place + 1) more

-- the mark of a word in the tree of those that have a bit set
abbrev pub mark : ℕ → Option ℕ
mark word = cond (eqb word 0) None (Some 0)

-- words that have so many places, and the tree of those that have a bit set
pub record AreBits (len : ℕ) (words : List ℕ) (filled : List (Option ℕ)) : Type 0 where
  pub marked : (word : ℕ) → slice_index_or filled word None ≡ mark (word_at words word)
  pub room : length words ≤ length filled
  pub enough : len ≤ 64 * length words
  pub small : length words ≤ 2 ^ 53
  pub clear : (place : ℕ) → len ≤ place → has words place ≡ false
