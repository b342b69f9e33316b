-- What is kept of the items, and what is counted while they are gone through.
use Rattle.std.specs.Prelude.{◌≡◌, ℕ, ◌+◌, ◌^◌, ◌<◌, List, length, Option, None, Some}
use Rattle.std.specs.Prelude.{slice_index, slice_set}
use Rattle.reply_tree.specs.Walks.{RepliesToEarlier, depth_of}
use Rattle.reply_tree.specs.Walks.{size_of, walk_of}

-- a number for each item
pub record IsOfEach (ps : List (Option ℕ)) (of : ℕ → ℕ) (ns : List ℕ) : Type 0 where
  pub many : length ns ≡ length ps
  pub each : (n : ℕ) → n < length ps → slice_index ns n ≡ of n

-- what a tree keeps of its items
pub record IsFinished (ps : List (Option ℕ)) (depths sizes walk : List ℕ) : Type 0 where
  pub earlier : RepliesToEarlier ps
  pub few : length ps < 2 ^ 32
  pub has_depths : IsOfEach ps (depth_of ps) depths
  pub has_sizes : IsOfEach ps (size_of ps) sizes
  pub has_walk : walk ≡ walk_of ps

-- the depth of an item, by those of earlier ones
abbrev pub depth_under : List ℕ → Option ℕ → ℕ
depth_under depths None = 0
depth_under depths (Some p) = slice_index depths p + 1

-- an item's size counted in that of what it replies to
abbrev pub count_added : List ℕ → ℕ → Option ℕ → List ℕ
count_added sizes item None = sizes
count_added sizes item (Some p) = slice_set sizes p (slice_index sizes p + slice_index sizes item)

-- the next free place for a reply to this
abbrev pub free_at : ℕ → List ℕ → Option ℕ → ℕ
free_at top free None = top
free_at top free (Some p) = slice_index free p

-- the next free place for a root, behind so many that a reply to this took
abbrev pub top_behind : ℕ → Option ℕ → ℕ → ℕ
top_behind top None size = top + size
top_behind top (Some p) size = top

-- the next free places below each item, behind so many that a reply to this took
abbrev pub free_behind : List ℕ → Option ℕ → ℕ → List ℕ
free_behind free None size = free
free_behind free (Some p) size = slice_set free p (slice_index free p + size)
