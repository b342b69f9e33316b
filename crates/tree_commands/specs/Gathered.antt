-- A tree of messages by their arrival numbers is that of these messages of a journal.
use Rattle.std.specs.Prelude.{◌≡◌, ℕ, ◌<◌, cond, List, [], ◌∷◌, ◌++◌, length, map, Option, None}
use Rattle.std.specs.Prelude.{Some}
use Rattle.std.specs.List.{AllByRecursion}
use Rattle.sync_rules.specs.Clients.{Meaning}
use Rattle.sync_rules.specs.Facts.{Facts, Held, Id, held_at}
use Rattle.sync_rules.specs.Steps.{is_beside}
use Rattle.sync_rules.specs.Views.{IsFound}
use Rattle.journal_state.specs.Whole.{id_at}
use Rattle.tree_commands.specs.Threads.{ThreadValue}
use Rattle.tree_commands.specs.Trees.{parents_of}

-- the items are these messages, each of them held
pub record IsThreadOf (clients : Meaning) (f : Facts) (ids : List Id) (t : ThreadValue) : Type 0
  where
    pub numbered : map (id_at f.held) t.numbers ≡ ids
    pub parents : t.parents ≡ parents_of clients f ids
    pub sized : t.held ≡ length f.held
    pub within : AllByRecursion (λ n. n < length f.held) t.numbers

-- these messages and one more, where it is of the group
abbrev pub with_delivered : Facts → Id → List Id → Id → List Id
with_delivered f group ids id = ids ++ cond (is_beside group (held_at f.held id)) (id ∷ []) []

-- where the message stands that is replied to
abbrev pub StandsAt : List Held → Option Id → Option ℕ → Type 0
StandsAt held None found = found ≡ None
StandsAt held (Some id) found = IsFound held id found
