-- What labels stand for.
use Rattle.std.specs.Prelude.{ℕ, ◌==◌, ◌&&◌, ◌||◌, not, Bool, false, nat_lt, nat_le, if◌then◌else◌}
use Rattle.std.specs.Prelude.{List, [], ◌∷◌, ◌++◌, length}
use Rattle.std.specs.List.{list_all, list_any, position_or_len}
use Rattle.std.specs.Str.{bytes_eq}
use Rattle.sync_rules.specs.declared.limits.TheConstants.{MAX_DEPS}
use Rattle.world_scripts.specs.declared.step.TheConstants.{NOTE, THREAD, FEED}

-- a group's kind and descriptor
abbrev pub KindAndDescriptor : Type 0
KindAndDescriptor = ℕ × List ℕ

abbrev pub is_pair : KindAndDescriptor → KindAndDescriptor → Bool
is_pair a b = (b.0 == a.0) && bytes_eq b.1 a.1

-- the place of a pair among others, or their number where it is none of them
unfoldable pub place_of : KindAndDescriptor → List KindAndDescriptor → ℕ
place_of pair pairs = position_or_len (is_pair pair) pairs

-- the pairs that a line names, in the order of the first line that names each
unfoldable pub labelled : KindAndDescriptor → List KindAndDescriptor → List KindAndDescriptor
labelled pair pairs =
    if nat_lt (place_of pair pairs) (length pairs) then pairs else pairs ++ pair ∷ []

-- each is the label of one of the first so many posts
abbrev pub are_made : List ℕ → ℕ → Bool
are_made parents posts = list_all (λ label. nat_lt label posts) parents

-- whether a label stands twice among these
abbrev pub has_twice : List ℕ → Bool
has_twice [] = false
has_twice (label ∷ labels) = list_any (λ other. other == label) labels || has_twice labels

-- the parents that a post of a group of this kind may have: a note none, a thread's post distinct
-- ones, a feed's post one
abbrev pub suits_kind : ℕ → List ℕ → Bool
suits_kind kind parents =
    if kind == NOTE then length parents == 0
    else if kind == THREAD then nat_le (length parents) MAX_DEPS && not (has_twice parents)
    else if kind == FEED then nat_le (length parents) 1
    else false
