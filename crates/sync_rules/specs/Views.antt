-- What a session sees of a store: the facts of one journal, and the ids of the held messages whose judgement lets them be
-- sent on.
use Rattle.std.specs.Prelude.{◌≡◌, ℕ, suc, ◌<◌, Bool, true, false, cond, List, [], ◌∷◌, length, Option, Some, None, is_some, MatchOption}
use Rattle.std.specs.List.{slice_get}
use Rattle.std.specs.Option.{option_map}
use Rattle.sync_rules.specs.Lists.{same_id}
use Rattle.sync_rules.specs.Facts.{Facts, Held, Id, group_at, held_at, is_invisible, level_at, row_at}

pub record Seen : Type 0 where
  pub facts : Facts
  pub shared : List Id

-- the arrival number of the first held message of an id
abbrev pub place_of : List Held → Id → Option ℕ
place_of [] id = None
place_of (h ∷ hs) id = cond (same_id h.id id) (Some 0) (option_map suc (place_of hs id))

-- the first held message of an id has this arrival number
pub record IsPlace (held : List Held) (id : Id) (n : ℕ) : Type 0 where
  pub message : Held
  pub named : message.id ≡ id
  pub first : held_at held id ≡ Some message
  pub stands : slice_get held n ≡ Some message
  pub within : n < length held

-- what a look-up of an id tells: its place, or that no message of it is held
abbrev pub IsFound : List Held → Id → Option ℕ → Type 0
IsFound held id found = MatchOption found (held_at held id ≡ None) (IsPlace held id)

-- the group of a held message
abbrev pub group_in : Option Held → Id
group_in None = []
group_in (Some h) = h.message.group

-- whether a contact has a held message
abbrev pub is_seen_in : Facts → ℕ → Option Held → Bool
is_seen_in f contact None = false
is_seen_in f contact (Some h) = (row_at f.rows contact h.id).seen

-- each group that is not Invisible to some contact is known; every legal journal is so
abbrev pub KnowsShown : Facts → Type 0
KnowsShown f = (contact : ℕ) (group : Id) → is_invisible (level_at f.levels contact group) ≡ false → is_some (group_at f.groups group) ≡ true
