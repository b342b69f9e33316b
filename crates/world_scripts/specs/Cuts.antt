-- How a script is cut into lines, and a line into words.
use Rattle.std.specs.Prelude.{ℕ, Bool, ◌==◌, nat_lt, if◌then◌else◌, List, [], ◌∷◌, length, Option}
use Rattle.std.specs.Prelude.{Some, None}
use Rattle.std.specs.List.{position_or_len, before_first, after_first, onto_first}

-- the lines of a script. Each ends with a line feed, which is no part of it; the last one may lack
-- it
unfoldable pub lines : List ℕ → List (List ℕ)
lines [] = []
lines (b ∷ script) = if b == 10 then [] ∷ lines script else onto_first b (lines script)

-- what stands before the first such byte of a text, or all of it
unfoldable pub front_of : ℕ → List ℕ → List ℕ
front_of at text = before_first (λ b. b == at) text

-- what stands behind that byte, if it is there
unfoldable pub behind : ℕ → List ℕ → Option (List ℕ)
behind at text =
    if nat_lt (position_or_len (λ b. b == at) text) (length text)
    then Some (after_first (λ b. b == at) text) else None

abbrev pub is_line_feed : ℕ → Bool
is_line_feed b = b == 10
