-- What is due in a list of places, each of which is absent or has a number.
use Rattle.std.specs.Prelude.{ℕ, Bool, false, nat_le, List, Option, None, Some, drop}
use Rattle.std.specs.List.{position_from}

-- whether a number is there, and at most the bound
abbrev pub is_due : ℕ → Option ℕ → Bool
is_due bound None = false
is_due bound (Some number) = nat_le number bound

-- the least place from `from` on whose number is due
abbrev pub next_due : ℕ → ℕ → List (Option ℕ) → Option ℕ
next_due from bound places = position_from (is_due bound) from (drop from places)

-- the least place whose number is due
abbrev pub first_due : ℕ → List (Option ℕ) → Option ℕ
first_due bound places = position_from (is_due bound) 0 places
