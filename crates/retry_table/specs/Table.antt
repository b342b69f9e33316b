-- What is kept for each contact: a row for each message, by the message's number, and the ids that are wanted from it. A row that is
-- not there counts as one that is all false and zero.
use Rattle.std.specs.Prelude.{◌≡◌, ◌≢◌, ℕ, ◌+◌, ◌-◌, max, Bool, true, false, cond, nat_eq, List, [], ◌∷◌, ◌++◌, length, replicate, Option, None, Some, slice_index_or, slice_set}
use Rattle.sync_rules.specs.declared.entries.Tried.{Tried}
use Rattle.sync_rules.specs.Facts.{Id, Row, no_row}

-- what is kept of one message for one contact: its row, and whether it is ready, that is, whether it may be sent to the contact as far
-- as the message, its group and its origin go
pub record KeptRow : Type 0 where
  pub ready : Bool
  pub row : Row

-- the ids wanted from one contact, in order, and for how many more there is room
pub record WantedFromContact : Type 0 where
  pub ids : List Id
  pub room : ℕ

-- for each contact its rows, and of each message, by its number, the group in which it was released: it may be sent to others
pub record RowsTable : Type 0 where
  pub rows : List (List KeptRow)
  pub groups : List (Option ℕ)

-- for each contact its rows and its wanted ids, and the group in which each message was released
pub record Table : Type 0 where
  pub rows : List (List KeptRow)
  pub wants : List WantedFromContact
  pub groups : List (Option ℕ)

abbrev pub no_kept : KeptRow
no_kept = record { ready = false; row = no_row }

abbrev pub no_wants : WantedFromContact
no_wants = record { ids = []; room = 0 }

-- the rows of a contact: there is room for as many
abbrev pub rows_of : Table → ℕ → List KeptRow
rows_of table contact = slice_index_or table.rows contact []

abbrev pub wants_of : Table → ℕ → WantedFromContact
wants_of table contact = slice_index_or table.wants contact no_wants

-- what is kept of the message of a number
abbrev pub kept_in : List KeptRow → ℕ → KeptRow
kept_in rows n = slice_index_or rows n no_kept

abbrev pub kept_at : Table → ℕ → ℕ → KeptRow
kept_at table contact n = kept_in (rows_of table contact) n

-- the same of the rows alone
abbrev pub rows_at : RowsTable → ℕ → List KeptRow
rows_at table contact = slice_index_or table.rows contact []

abbrev pub with_rows : ℕ → List KeptRow → RowsTable → RowsTable
with_rows contact rows table = record table { rows = slice_set table.rows contact rows }

-- the same with another row, and with another word on whether it is ready
abbrev pub with_row : (Row → Row) → KeptRow → KeptRow
with_row change kept = record kept { row = change kept.row }

abbrev pub with_ready : Bool → KeptRow → KeptRow
with_ready ready kept = record kept { ready = ready }

-- our acknowledgement is owed
abbrev pub row_owed : Row → Row
row_owed r = record r { owed = true }

-- the contact sent the message: it has it, and our acknowledgement is owed
abbrev pub row_heard : Row → Row
row_heard r = record r { seen = true; owed = true }

-- what is stated of a message for a contact, whatever was kept before
abbrev pub row_restored : Tried → Row → Row
row_restored t r = record { seen = t.seen; owed = t.owed; asked = t.asked; tries = t.tries; expiry = t.expiry }

-- what is kept of a message of this id for a contact, as it may be stated
abbrev pub tried_of : ℕ → Id → Row → Tried
tried_of contact id r = record { contact = contact; id = id; seen = r.seen; owed = r.owed; asked = r.asked; tries = r.tries; expiry = r.expiry }

-- the group in which the message of a number was released
abbrev pub group_at : Table → ℕ → Option ℕ
group_at table n = slice_index_or table.groups n None

-- whether it was released in that group
abbrev pub is_of_group : Option ℕ → ℕ → Bool
is_of_group None group = false
is_of_group (Some other) group = nat_eq group other

-- nobody has rows, wanted ids or room, and nothing was released
pub record IsEmpty (table : Table) : Type 0 where
  pub rows : (contact : ℕ) → rows_of table contact ≡ []
  pub wants : (contact : ℕ) → wants_of table contact ≡ no_wants
  pub groups : table.groups ≡ []

-- one contact has these rows, and all else is as it was
pub record ChangesRows (old new : Table) (contact : ℕ) (rows : List KeptRow) : Type 0 where
  pub here : rows_of new contact ≡ rows
  pub others : (other : ℕ) → other ≢ contact → rows_of new other ≡ rows_of old other
  pub wants : new.wants ≡ old.wants
  pub groups : new.groups ≡ old.groups

-- this is kept of one message for one contact, and all else is as it was
abbrev pub KeepsRow : Table → Table → ℕ → ℕ → KeptRow → Type 0
KeepsRow old new contact n kept = ChangesRows old new contact (slice_set (rows_of old contact) n kept)

-- one contact has these wanted ids and this room, and all else is as it was
pub record ChangesWants (old new : Table) (contact : ℕ) (wants : WantedFromContact) : Type 0 where
  pub here : wants_of new contact ≡ wants
  pub others : (other : ℕ) → other ≢ contact → wants_of new other ≡ wants_of old other
  pub rows : new.rows ≡ old.rows
  pub groups : new.groups ≡ old.groups

-- rows for all numbers below this one
abbrev pub with_numbers : ℕ → List KeptRow → List KeptRow
with_numbers numbers rows = rows ++ replicate (numbers - length rows) no_kept

-- room for so many more wanted ids
abbrev pub with_room : ℕ → WantedFromContact → WantedFromContact
with_room room wants = record wants { room = max wants.room room }

-- one contact has room for the rows of these numbers and for so many more wanted ids; no row and no wanted id is another, and no room
-- was taken away
pub record ReservesRows (old new : Table) (contact numbers room : ℕ) : Type 0 where
  pub rows : rows_of new contact ≡ with_numbers numbers (rows_of old contact)
  pub other_rows : (other : ℕ) → other ≢ contact → rows_of new other ≡ rows_of old other
  pub wants : wants_of new contact ≡ with_room room (wants_of old contact)
  pub other_wants : (other : ℕ) → other ≢ contact → wants_of new other ≡ wants_of old other
  pub groups : new.groups ≡ old.groups

-- the messages that were released in a group are ready for one contact or not, and all else is as it was
pub record SetsGroup (old new : Table) (contact group : ℕ) (ready : Bool) : Type 0 where
  pub here : (n : ℕ) → kept_at new contact n ≡ cond (is_of_group (group_at old n) group) (with_ready ready (kept_at old contact n)) (kept_at old contact n)
  pub many : length (rows_of new contact) ≡ length (rows_of old contact)
  pub others : (other : ℕ) → other ≢ contact → rows_of new other ≡ rows_of old other
  pub wants : new.wants ≡ old.wants
  pub groups : new.groups ≡ old.groups
