-- What is told in a brief account, item by item: each stands for an entry, and names by numbers
-- what the state has.
use Rattle.std.specs.Prelude.{◌≡◌, ℕ, ◌<◌, Bool, true, false, not, List, [], length, ◌++◌, map}
use Rattle.std.specs.Prelude.{Option, Some, None}
use Rattle.std.specs.Prelude.{slice_get}
use Rattle.std.specs.List.{AllByRecursion}
use Rattle.sync_rules.specs.declared.entries.Entry.{Entry}
use Rattle.sync_rules.specs.declared.entries.Entry.TheVariants as entry
use Rattle.sync_rules.specs.Facts.{Facts, Held, Id, Known, is_invisible, is_no_row, level_at}
use Rattle.sync_rules.specs.Facts.{row_at, wanted_from}
use Rattle.entry_codec.specs.declared.naming.Format.TheVariants as kind
use Rattle.entry_codec.specs.Payloads.{names_of}
use Rattle.entry_codec.specs.Spelling.{spelling_in}
use Rattle.journal_state.specs.declared.account.Told.{Told}
use Rattle.journal_state.specs.declared.account.Told.TheVariants as told
use Rattle.retry_table.specs.Table.{tried_of}
use Rattle.journal_compaction.specs.declared.items.Item.{Item}
use Rattle.journal_compaction.specs.declared.items.Item.TheVariants as item

-- ---- the entry of an item

-- what stands for what is not there
abbrev pub no_entry : Entry
no_entry = entry.Brief 0

abbrev pub group_entry : Option Known → Entry
group_entry None = no_entry
group_entry (Some g) = entry.Group g.def

abbrev pub level_entry : Facts → ℕ → Option Known → Entry
level_entry f contact None = no_entry
level_entry f contact (Some g) = entry.Level contact g.id (level_at f.levels contact g.id)

abbrev pub kept_entry : Option Held → Entry
kept_entry None = no_entry
kept_entry (Some h) = entry.Kept h.origin h.message

abbrev pub id_of : Option Held → Id
id_of None = []
id_of (Some h) = h.id

abbrev pub want_entry : ℕ → Option Id → Entry
want_entry contact None = no_entry
want_entry contact (Some id) = entry.Want contact id

-- the id of the held message of a number
abbrev pub id_at : Facts → ℕ → Id
id_at f n = id_of (slice_get f.held n)

-- the entry that an item stands for, where the state has these facts
abbrev pub entry_of : Facts → Item → Entry
entry_of f item.Brief = entry.Brief f.begun
entry_of f (item.Contact c) = entry.Contact c
entry_of f (item.Group n) = group_entry (slice_get f.groups n)
entry_of f (item.Level c n) = level_entry f c (slice_get f.groups n)
entry_of f (item.Kept n) = kept_entry (slice_get f.held n)
entry_of f (item.Judged n) = entry.Judged (id_at f n)
entry_of f (item.Deliver n) = entry.Deliver (id_at f n)
entry_of f (item.Invalid n) = entry.Invalid (id_at f n)
entry_of f (item.Row c n) = entry.Tried (tried_of c (id_at f n) (row_at f.rows c (id_at f n)))
entry_of f (item.Want c n) = want_entry c (slice_get (wanted_from f.wanted c) n)

-- what an item names is there, and a row that it names is not all false and zero
abbrev pub IsItem : Facts → Item → Type 0
IsItem f item.Brief = Unit {0}
IsItem f (item.Contact c) = Unit {0}
IsItem f (item.Group n) = n < length f.groups
IsItem f (item.Level c n) = n < length f.groups
IsItem f (item.Kept n) = n < length f.held
IsItem f (item.Judged n) = n < length f.held
IsItem f (item.Deliver n) = n < length f.held
IsItem f (item.Invalid n) = n < length f.held
IsItem f (item.Row c n) = (n < length f.held) × (is_no_row (row_at f.rows c (id_at f n)) ≡ false)
IsItem f (item.Want c n) = n < length (wanted_from f.wanted c)

-- ---- kinds of items

-- an item whose entry is a batch of its own
abbrev pub is_alone : Item → Bool
is_alone (item.Judged n) = false
is_alone (item.Deliver n) = false
is_alone (item.Invalid n) = false
is_alone (item.Row c n) = false
is_alone (item.Want c n) = false
is_alone _ = true

-- a kept message or a step
abbrev pub is_told : Item → Bool
is_told (item.Kept n) = true
is_told (item.Judged n) = true
is_told (item.Deliver n) = true
is_told (item.Invalid n) = true
is_told _ = false

-- a row or a wanted id
abbrev pub is_peer : Item → Bool
is_peer (item.Row c n) = true
is_peer (item.Want c n) = true
is_peer _ = false

-- an item whose entry is written from a reference, as it may be long
abbrev pub is_lent : Item → Bool
is_lent (item.Group n) = true
is_lent (item.Kept n) = true
is_lent _ = false

-- whether the level of a group for a contact is not Invisible
abbrev pub is_visible : Facts → ℕ → Option Known → Bool
is_visible f contact None = false
is_visible f contact (Some g) = not (is_invisible (level_at f.levels contact g.id))

-- the item of what is told of a message
abbrev pub item_told : Told → Item
item_told (told.Kept n) = item.Kept n
item_told (told.Judged n) = item.Judged n
item_told (told.Deliver n) = item.Deliver n
item_told (told.Invalid n) = item.Invalid n

-- ---- lists of items

-- these items stand for these entries, and are of this kind
pub record AreItems (f : Facts) (of : Item → Bool) (items : List Item)
    (entries : List Entry) : Type 0 where
  pub means : map (entry_of f) items ≡ entries
  pub there : AllByRecursion (IsItem f) items
  pub kinds : AllByRecursion (λ i. of i ≡ true) items

-- items that stand for these entries, and are of this kind, come behind others
pub record AddsItems (f : Facts) (of : Item → Bool) (old new : List Item)
    (entries : List Entry) : Type 0 where
  pub more : List Item
  pub is : new ≡ old ++ more
  pub are : AreItems f of more entries

-- ---- spellings

-- what an item's entry is written as, where the messages that are held are named by their numbers
-- among all of them
abbrev pub bytes_of : Facts → Item → List ℕ
bytes_of f i = spelling_in kind.Short (names_of f) (entry_of f i)
