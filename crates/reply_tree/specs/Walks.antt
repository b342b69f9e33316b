-- The walk of a reply tree, over the list of the items' parents: none for a root, else the number of an earlier item.
use Rattle.std.specs.Prelude.{◌≡◌, ℕ, zero, suc, if◌then◌else◌, ◌-◌, ◌<◌, ◌==◌, ◌&&◌, ◌||◌, ◌↔◌, nat_lt, Bool, true, false, List, [], ◌∷◌, ◌++◌, length, take, drop, Option, None, Some, slice_index, slice_index_or}
use Rattle.std.specs.List.{filter, Contains}

-- the path of what an item replies to, of the paths of earlier items
abbrev pub path_above : List (List ℕ) → Option ℕ → List ℕ
path_above earlier None = []
path_above earlier (Some p) = slice_index_or earlier p []

-- the paths of more items behind those of earlier ones: that of what the item replies to, and its own number
abbrev pub paths_behind : List (List ℕ) → List (Option ℕ) → List (List ℕ)
paths_behind earlier [] = earlier
paths_behind earlier (p ∷ ps) = paths_behind (earlier ++ (path_above earlier p ++ length earlier ∷ []) ∷ []) ps

-- the path of each item: the numbers of the items from its root down to itself
abbrev pub paths : List (Option ℕ) → List (List ℕ)
paths ps = paths_behind [] ps

abbrev pub path_of : List (Option ℕ) → ℕ → List ℕ
path_of ps n = slice_index_or (paths ps) n []

-- a path begins with another one
abbrev pub begins_with : List ℕ → List ℕ → Bool
begins_with [] path = true
begins_with (a ∷ front) [] = false
begins_with (a ∷ front) (b ∷ path) = (a == b) && begins_with front path

-- the order of paths: by the first number in which they differ, and a front of a path before it
abbrev pub is_before : List ℕ → List ℕ → Bool
is_before [] [] = false
is_before [] (b ∷ second) = true
is_before (a ∷ first) [] = false
is_before (a ∷ first) (b ∷ second) = nat_lt a b || ((a == b) && is_before first second)

-- how many items stand above one
abbrev pub depth_of : List (Option ℕ) → ℕ → ℕ
depth_of ps n = length (path_of ps n) - 1

-- how many items there are below one, and itself
abbrev pub size_of : List (Option ℕ) → ℕ → ℕ
size_of ps n = length (filter (begins_with (path_of ps n)) (paths ps))

-- the walk: the numbers of all items, in the order of their paths
pub record IsWalk (ps : List (Option ℕ)) (walk : List ℕ) : Type 0 where
  pub items : (n : ℕ) → (n < length ps) ↔ Contains walk n
  pub ascends : (i j : ℕ) → i < j → j < length walk → is_before (path_of ps (slice_index walk i)) (path_of ps (slice_index walk j)) ≡ true

-- a number among others that ascend by their paths
abbrev pub among_paths : List (Option ℕ) → ℕ → List ℕ → List ℕ
among_paths ps n [] = n ∷ []
among_paths ps n (m ∷ walk) = if is_before (path_of ps n) (path_of ps m) then n ∷ m ∷ walk else m ∷ among_paths ps n walk

-- the numbers below one, ascending by their paths
abbrev pub walk_below : List (Option ℕ) → ℕ → List ℕ
walk_below ps zero = []
walk_below ps (suc n) = among_paths ps n (walk_below ps n)

-- the one walk, by sorting all numbers
abbrev pub walk_of : List (Option ℕ) → List ℕ
walk_of ps = walk_below ps (length ps)

-- so many items of the walk from a place on
pub record IsWindow (ps : List (Option ℕ)) (place count : ℕ) (window : List ℕ) : Type 0 where
  pub walk : List ℕ
  pub is_walk : IsWalk ps walk
  pub part : window ≡ take count (drop place walk)

-- each item that replies to one replies to an earlier one
abbrev pub RepliesToEarlier : List (Option ℕ) → Type 0
RepliesToEarlier ps = (n p : ℕ) → slice_index_or ps n None ≡ Some p → p < n

-- the walk is one list
abbrev pub HasOneWalk : Type 0
HasOneWalk = (ps : List (Option ℕ)) (one other : List ℕ) → IsWalk ps one → IsWalk ps other → one ≡ other

-- and it is this one
abbrev pub IsSortedWalk : Type 0
IsSortedWalk = (ps : List (Option ℕ)) → RepliesToEarlier ps → IsWalk ps (walk_of ps)

-- in the walk an item stands behind what it replies to
abbrev pub HasParentsFirst : Type 0
HasParentsFirst = (ps : List (Option ℕ)) (walk : List ℕ) → RepliesToEarlier ps → IsWalk ps walk → (i j : ℕ)
    → i < length walk → j < length walk → slice_index_or ps (slice_index walk j) None ≡ Some (slice_index walk i) → i < j
