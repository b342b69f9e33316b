-- What a delivery makes of the table of what is due.
use Rattle.std.specs.Prelude.{◌≡◌, ◌≢◌, ℕ, ◌<◌, ◌≤◌, Bool, true, cond, ◌&&◌, length}
use Rattle.sync_rules.specs.Facts.{Id, LevelMap, level_at, is_level_shared}
use Rattle.retry_table.specs.Table as retry

-- whether a message may go to a contact: its group is Shared with the contact, and it was written here or may be sent on
abbrev pub goes_to : LevelMap → Id → Bool → ℕ → Bool
goes_to levels group outgoing contact = is_level_shared (level_at levels contact group) && outgoing

-- there may be more room; the same is kept of every message, it is released or not as it was, and the same ids are wanted
pub record GrowsRoom (old new : retry.Table) : Type 0 where
  pub kept : (contact n : ℕ) → retry.kept_at new contact n ≡ retry.kept_at old contact n
  pub wants : (contact : ℕ) → (retry.wants_of new contact).ids ≡ (retry.wants_of old contact).ids
  pub room : (contact : ℕ) → length (retry.rows_of old contact) ≤ length (retry.rows_of new contact)
  pub groups : (n : ℕ) → retry.group_at new n ≡ retry.group_at old n

-- there is room for the rows of all numbers below that one at each of the contacts that a message goes to
abbrev pub HasRowsAtContacts : retry.Table → (ℕ → Bool) → ℕ → ℕ → Type 0
HasRowsAtContacts table goes contacts numbers = (contact : ℕ) → contact < contacts → goes contact ≡ true → numbers ≤ length (retry.rows_of table contact)

-- the message of that number is ready for a contact if it goes there, and all else is as it was
pub record ReadiesOne (old new : retry.Table) (contact n : ℕ) (goes : Bool) : Type 0 where
  pub here : retry.kept_at new contact n ≡ cond goes (retry.with_ready true (retry.kept_at old contact n)) (retry.kept_at old contact n)
  pub apart : (k : ℕ) → k ≢ n → retry.kept_at new contact k ≡ retry.kept_at old contact k
  pub others : (other : ℕ) → other ≢ contact → retry.rows_of new other ≡ retry.rows_of old other
  pub wants : new.wants ≡ old.wants

-- the message of that number is ready for each of the contacts that it goes to, and all else is as it was
pub record ReadiesMessage (old new : retry.Table) (goes : ℕ → Bool) (contacts n : ℕ) : Type 0 where
  pub here : (contact : ℕ) → contact < contacts → retry.kept_at new contact n ≡ cond (goes contact) (retry.with_ready true (retry.kept_at old contact n)) (retry.kept_at old contact n)
  pub apart : (contact k : ℕ) → k ≢ n → retry.kept_at new contact k ≡ retry.kept_at old contact k
  pub beyond : (contact : ℕ) → contacts ≤ contact → retry.rows_of new contact ≡ retry.rows_of old contact
  pub wants : new.wants ≡ old.wants
