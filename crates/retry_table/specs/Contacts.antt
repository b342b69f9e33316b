-- The rows of all contacts, of which some are to be brought in order.
use Rattle.std.specs.Prelude.{◌≡◌, ℕ, ◌+◌, ◌<◌, ◌≤◌, ◌^◌, List, [], length, Option, None, Some, slice_get, slice_index_or}
use Rattle.indexmap.specs.IndexMap.{spare}
use Rattle.sync_rules.specs.declared.limits.TheConstants.{MAX_CONTACTS}
use Rattle.retry_table.specs.declared.contact_rows.ContactRows.{ContactRows}
use Rattle.retry_table.specs.declared.contact_rows.Released.{Released}
use Rattle.retry_table.specs.Turns.{IsSaid, count_released}

-- there is or was room for what is said of one group
abbrev pub HasTurnRoom : ContactRows → Type 0
HasTurnRoom c = 1 ≤ length c.turns.entries + spare c.turns

-- no rows and nothing said
pub record IsBlank (c : ContactRows) : Type 0 where
  pub rows : c.queues ≡ []
  pub turns : c.turns.entries ≡ []
  pub room : HasTurnRoom c

-- the rows of one contact, with room, and what was said of messages that have rows
abbrev pub IsSaidFor : List (Option Released) → ℕ → ContactRows → Type 0
IsSaidFor released count c = HasTurnRoom c × IsSaid released count c.turns.entries c.queues

-- the rows of all contacts; each message that was released has its place before the next one's
pub record AreContacts (contacts : List ContactRows) (released : List (Option Released)) (count : ℕ) : Type 0 where
  pub many : length contacts ≡ MAX_CONTACTS
  pub each : (contact : ℕ) (c : ContactRows) → slice_get contacts contact ≡ Some c → IsSaidFor released count c
  pub places : (n : ℕ) (at : Released) → slice_index_or released n None ≡ Some at → at.place < count
  pub counted : count ≤ count_released released
  pub few : length released < 2 ^ 32
