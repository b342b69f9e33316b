-- Lists of ids, an id being the list of its bytes.
use Rattle.std.specs.Prelude.{◌≡◌, ℕ, ◌≤◌, ◌⊎◌, Bool, true, false, cond, ◌||◌, nat_eq, List, [], ◌∷◌, length}
use Rattle.std.specs.List.{list_any}
use Rattle.std.specs.Cmp.Lexicographic.{pointwise}
use Rattle.sync_rules.specs.declared.limits.TheConstants.{MAX_DEPS}

-- an element of a list
module _ {A : Type 0} where
  abbrev pub In : A → List A → Type 0
  In x [] = ⊥
  In x (y ∷ ys) = (x ≡ y) ⊎ In x ys

-- whether two ids are the same bytes
abbrev pub same_id : List ℕ → List ℕ → Bool
same_id a b = pointwise nat_eq a b

-- whether an id is in a list
abbrev pub is_among : List (List ℕ) → List ℕ → Bool
is_among ids id = list_any (λ x. same_id x id) ids

-- whether a list has two equal ids
abbrev pub has_repeat : List (List ℕ) → Bool
has_repeat [] = false
has_repeat (id ∷ ids) = is_among ids id || has_repeat ids

-- a list without an id
abbrev pub without : List ℕ → List (List ℕ) → List (List ℕ)
without id [] = []
without id (x ∷ xs) = cond (same_id x id) (without id xs) (x ∷ without id xs)

-- the limits of a message's dependencies: at most MAX_DEPS, and all distinct
pub record IsDepList (ids : List (List ℕ)) : Type 0 where
  pub few : length ids ≤ MAX_DEPS
  pub distinct : has_repeat ids ≡ false

-- an id before a list, where it is not in the earlier ones
abbrev pub unless_among : Bool → List ℕ → List (List ℕ) → List (List ℕ)
unless_among true id rest = rest
unless_among false id rest = id ∷ rest

-- the ids that are not among the earlier ones, each once, in the order of their first places
abbrev pub firsts_after : List (List ℕ) → List (List ℕ) → List (List ℕ)
firsts_after earlier [] = []
firsts_after earlier (id ∷ ids) = unless_among (is_among earlier id) id (firsts_after (id ∷ earlier) ids)

-- the ids of a list, each once, in the order of their first places
abbrev pub firsts : List (List ℕ) → List (List ℕ)
firsts ids = firsts_after [] ids
