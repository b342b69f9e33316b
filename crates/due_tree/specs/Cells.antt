-- How the tree lies in its cells: the root in cell 1, the children of cell k in the cells 2k and 2k + 1, the places in the last cells.
use Rattle.std.specs.Prelude.{◌≡◌, ◌≢◌, ℕ, false, ◌+◌, ◌*◌, ◌^◌, ◌<◌, ◌≤◌, min, List, length, Option, None, Some, slice_index_or}
use Rattle.due_tree.specs.Due.{is_due}

-- the lesser of two numbers, of which each may be absent
abbrev pub lesser : Option ℕ → Option ℕ → Option ℕ
lesser None b = b
lesser (Some m) None = Some m
lesser (Some m) (Some n) = Some (min m n)

-- what a cell has: nothing past the last one
abbrev pub at : List (Option ℕ) → ℕ → Option ℕ
at cells node = slice_index_or cells node None

-- the lesser of what the two children have
abbrev pub least_below : List (Option ℕ) → ℕ → Option ℕ
least_below cells node = lesser (at cells (2 * node)) (at cells (2 * node + 1))

-- each cell that is no place, but for one, has the least of its children
abbrev pub IsTreeBut : ℕ → List (Option ℕ) → ℕ → Type 0
IsTreeBut leaves cells but = (node : ℕ) → 1 ≤ node → node < leaves → node ≢ but → at cells node ≡ least_below cells node

-- each cell that is no place has the least of its children
abbrev pub IsTree : ℕ → List (Option ℕ) → Type 0
IsTree leaves cells = (node : ℕ) → 1 ≤ node → node < leaves → at cells node ≡ least_below cells node

-- no cell from `low` to `high` is due
abbrev pub IsClear : ℕ → List (Option ℕ) → ℕ → ℕ → Type 0
IsClear bound cells low high = (cell : ℕ) → low ≤ cell → cell < high → is_due bound (at cells cell) ≡ false

-- the sizes of a tree of that height: a power of two of cells before the places, and at most as many places
pub record IsShape (height leaves count : ℕ) : Type 0 where
  pub power : leaves ≡ 2 ^ height
  pub small : leaves < 2 ^ 59
  pub begun : leaves ≤ count
  pub ended : count ≤ 2 * leaves

-- a tree of that height, whole
pub record IsTreeWhole (height leaves : ℕ) (cells : List (Option ℕ)) : Type 0 where
  pub shape : IsShape height leaves (length cells)
  pub tree : IsTree leaves cells
