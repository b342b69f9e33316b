-- Changes of what is wanted from contacts.
use Rattle.std.specs.Prelude.{◌≡◌, ◌≢◌, ℕ, ◌+◌, ◌<◌, ◌≤◌, List}
use Rattle.sync_rules.specs.Facts.{Id}
use Rattle.sync_rules.specs.Lists.{without}
use Rattle.retry_table.specs.Table.{Table, wants_of}

-- an id taken out of what is wanted from each contact below a number; no row and no room is another
pub record UnwantsBelow (bound : ℕ) (old new : Table) (id : Id) : Type 0 where
  pub rows : new.rows ≡ old.rows
  pub wants : (contact : ℕ) → contact < bound → (wants_of new contact).ids ≡ without id (wants_of old contact).ids
  pub beyond : (contact : ℕ) → bound ≤ contact → (wants_of new contact).ids ≡ (wants_of old contact).ids
  pub room : (contact : ℕ) → (wants_of new contact).room ≡ (wants_of old contact).room
  pub groups : new.groups ≡ old.groups

-- these ids are wanted from one contact, room for one was taken at most, and all else is as it was
pub record ChangesIds (old new : Table) (contact : ℕ) (ids : List Id) : Type 0 where
  pub here : (wants_of new contact).ids ≡ ids
  pub room : (wants_of old contact).room ≤ (wants_of new contact).room + 1
  pub others : (other : ℕ) → other ≢ contact → wants_of new other ≡ wants_of old other
  pub rows : new.rows ≡ old.rows
  pub groups : new.groups ≡ old.groups
