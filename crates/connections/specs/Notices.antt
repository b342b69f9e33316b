-- What a node tells without being asked.
use Rattle.std.specs.Prelude.{ℕ, ◌==◌, List, ◌∷◌, ◌++◌, count_by, decimal, length}

-- a line of the word, the number and how many bytes follow, and these
abbrev pub notice_text : (word : List ℕ) (number : ℕ) (bytes : List ℕ) → List ℕ
notice_text word number bytes = word ++ (32 ∷ decimal number ++ (32 ∷ decimal (length bytes) ++ (10 ∷ bytes)))

-- how many lines these bytes have
abbrev pub lines_in : List ℕ → ℕ
lines_in bytes = count_by (λ b. b == 10) bytes
