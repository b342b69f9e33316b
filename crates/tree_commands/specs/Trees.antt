-- What `tree` prints: a part of the walk of the replies in a group, by the facts of the journal and
-- the meaning of its clients.
use Rattle.std.specs.Prelude.{◌≡◌, ℕ, ◌<◌, if◌then◌else◌, List, [], ◌∷◌, ◌++◌, take}
use Rattle.std.specs.Prelude.{drop, Option, None, Some, is_some, slice_get, slice_index_or}
use Rattle.std.specs.Fmt.{decimal}
use Rattle.std.specs.List.{filter, flat_map}
use Rattle.hex.specs.Hex.{encode_lower}
use Rattle.reply_tree.specs.Walks.{depth_of, size_of, walk_of}
use Rattle.sync_rules.specs.declared.answers.Judgement.{Judgement}
use Rattle.sync_rules.specs.declared.answers.Judgement.TheVariants as judgement
use Rattle.sync_rules.specs.declared.entries.Entry.{Entry}
use Rattle.sync_rules.specs.declared.states.Refused.TheVariants as refused
use Rattle.sync_rules.specs.Clients.{Meaning}
use Rattle.sync_rules.specs.Facts.{Facts, Held, Id, facts, group_at, held_at}
use Rattle.sync_rules.specs.Legal.{Legal}
use Rattle.sync_rules.specs.Steps.{is_beside, verdict_in}
use Rattle.entry_codec.specs.Naming.{place_in}
use Rattle.store_commands.specs.Shown.{Showing, denies, shows}
use Rattle.tree_commands.specs.declared.tree.Window.{Window}

-- ---- the messages of a tree

-- the delivered messages of a group, in the order of their delivery
abbrev pub delivered_in : Facts → Id → List Id
delivered_in f group = filter (λ id. is_beside group (held_at f.held id)) f.delivered

-- the first dependency of a verdict, none where there is none
abbrev pub first_dependency_of : Judgement → Option Id
first_dependency_of judgement.Refuse = None
first_dependency_of (judgement.Accept deps share) = slice_get deps 0

-- what a held message replies to
abbrev pub replied_by : Meaning → Facts → Option Held → Option Id
replied_by clients f None = None
replied_by clients f (Some h) = first_dependency_of (verdict_in clients f.groups h.message)

abbrev pub place_if : List Id → Option Id → Option ℕ
place_if ids None = None
place_if ids (Some id) = place_in ids id

-- of each message the place of what it replies to, among the earlier ones
abbrev pub parents_behind : Meaning → Facts → (earlier : List Id) → List Id → List (Option ℕ)
parents_behind clients f earlier [] = []
parents_behind clients f earlier (id ∷ ids) =
    place_if earlier (replied_by clients f (held_at f.held id)) ∷ parents_behind clients f
    (earlier ++ id ∷ []) ids

abbrev pub parents_of : Meaning → Facts → List Id → List (Option ℕ)
parents_of clients f ids = parents_behind clients f [] ids

-- ---- the text

-- a message of the walk: how many stand above it, how many there are below it and itself, and its
-- id
abbrev pub tree_text : (depth size : ℕ) (id : List ℕ) → List ℕ
tree_text depth size id = decimal depth ++ (32 ∷ decimal size ++ (32 ∷ encode_lower id ++ 10 ∷ []))

abbrev pub walk_line : List Id → List (Option ℕ) → ℕ → List ℕ
walk_line ids ps n = tree_text (depth_of ps n) (size_of ps n) (slice_index_or ids n [])

-- so many messages of the walk from a place on, a line each
abbrev pub walk_text : List Id → List (Option ℕ) → (from count : ℕ) → List ℕ
walk_text ids ps from count = flat_map (walk_line ids ps) (take count (drop from (walk_of ps)))

-- what `tree` shows; it is refused where the group is not known
abbrev pub tree_shown : Meaning → Window → Facts → Showing
tree_shown clients w f =
    if is_some (group_at f.groups w.group)
    then shows (walk_text (delivered_in f w.group) (parents_of clients f (delivered_in f w.group))
    w.from w.count)
    else denies refused.UnknownGroup

-- ---- what a parent is

-- the parent of a message is an earlier one: the first dependency of its verdict
pub record HasParent (ids : List Id) (ps : List (Option ℕ)) (n : ℕ) (id : Id) : Type 0 where
  pub place : ℕ
  pub earlier : place < n
  pub parent : slice_get ps n ≡ Some (Some place)
  pub there : slice_get ids place ≡ Some id

-- In a legal journal each message whose verdict has a dependency replies to the first one, which
-- stands before it in the tree.
abbrev pub RepliesToFirst : Type 0
RepliesToFirst =
    (clients : Meaning) (j : List (List Entry)) → Legal clients j
    → (group : Id) (n : ℕ) (id first : Id)
    → slice_get (delivered_in (facts j) group) n ≡ Some id
    → replied_by clients (facts j) (held_at (facts j).held id) ≡ Some first
    → HasParent (delivered_in (facts j) group)
    (parents_of clients (facts j) (delivered_in (facts j) group)) n first
