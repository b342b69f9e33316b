-- What was said of whole groups for one contact, and what it makes of the contact's rows. A message that may be sent to others is
-- released in its group, and what is said of a group goes for the messages that were released before.
use Rattle.std.specs.Prelude.{◌≡◌, ℕ, suc, ◌+◌, ◌<◌, ◌≤◌, ◌^◌, Bool, cond, nat_eq, nat_lt, List, [], ◌∷◌, length, map, Option, None, Some, slice_get, slice_index_or}
use Rattle.std.specs.Map.{lookup}
use Rattle.std.specs.Option.{option_map}
use Rattle.sync_rules.specs.declared.limits.TheConstants.{MAX_CONTACTS}
use Rattle.retry_table.specs.declared.contact_rows.Released.{Released}
use Rattle.retry_table.specs.declared.contact_rows.Turn.{Turn}
use Rattle.retry_table.specs.Table.{KeptRow, is_of_group, with_ready}

-- what is said of a group, of those that were released before
abbrev pub said_before : ℕ → Option Turn → Option Bool
said_before place None = None
said_before place (Some t) = cond (nat_lt place t.before) (Some t.shared) None

-- what is said of a message by the words on the groups
abbrev pub said_of : (ℕ → Option Turn) → Option Released → Option Bool
said_of turns None = None
said_of turns (Some o) = said_before o.place (turns o.group)

-- the same of the message of a number
abbrev pub said_at : (ℕ → Option Turn) → List (Option Released) → ℕ → Option Bool
said_at turns released n = said_of turns (slice_index_or released n None)

-- the words on the groups, as they are listed
abbrev pub turns_in : List (ℕ × Turn) → ℕ → Option Turn
turns_in turns group = lookup (nat_eq group) turns

-- the words with one more
abbrev pub with_turn : ℕ → Turn → (ℕ → Option Turn) → ℕ → Option Turn
with_turn group turn turns g = cond (nat_eq group g) (Some turn) (turns g)

-- a row once something is said of its message, or nothing
abbrev pub turned : Option Bool → KeptRow → KeptRow
turned None kept = kept
turned (Some ready) kept = with_ready ready kept

-- the rows from that number on once that is said of their messages
unfoldable pub as_said : (ℕ → Option Bool) → ℕ → List KeptRow → List KeptRow
as_said said n [] = []
as_said said n (kept ∷ rows) = turned (said n) kept ∷ as_said said (n + 1) rows

-- what is said of the messages that were released in one group
abbrev pub word_of : List (Option ℕ) → ℕ → Bool → ℕ → Option Bool
word_of groups group ready n = cond (is_of_group (slice_index_or groups n None) group) (Some ready) None

-- the rows of a contact with what was said
abbrev pub shown : List (Option Released) → List (ℕ × Turn) → List KeptRow → List KeptRow
shown released turns rows = as_said (said_at (turns_in turns) released) 0 rows

-- the group in which a message was released
abbrev pub group_of : Option Released → Option ℕ
group_of o = option_map (λ at. at.group) o

-- what is said goes to messages that were released by now and have rows
pub record IsSaid (released : List (Option Released)) (count : ℕ) (turns : List (ℕ × Turn)) (rows : List KeptRow) : Type 0 where
  pub early : (group : ℕ) (turn : Turn) → turns_in turns group ≡ Some turn → turn.before ≤ count
  pub within : (n : ℕ) (ready : Bool) → said_at (turns_in turns) released n ≡ Some ready → n < length rows

-- how many messages were released
unfoldable pub count_released : List (Option Released) → ℕ
count_released [] = 0
count_released (None ∷ released) = count_released released
count_released (Some o ∷ released) = suc (count_released released)
