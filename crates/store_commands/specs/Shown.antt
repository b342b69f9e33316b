-- What the commands of a store print, by the facts of its journal.
use Rattle.std.specs.Prelude.{ℕ, zero, suc, List, [], ◌++◌, length, take, drop, Option, Some, None}
use Rattle.std.specs.List.{flat_map}
use Rattle.sync_ids.specs.Ids.{group_id_of, message_id_of}
use Rattle.sync_rules.specs.declared.entries.Entry.{Entry}
use Rattle.sync_rules.specs.declared.entries.Entry.TheVariants as entry
use Rattle.sync_rules.specs.declared.entries.Level.{Level}
use Rattle.sync_rules.specs.declared.entries.Level.TheVariants as level
use Rattle.sync_rules.specs.declared.states.Refused.{Refused}
use Rattle.sync_rules.specs.declared.states.Refused.TheVariants as refused
use Rattle.sync_rules.specs.Facts.{Facts, Held, Id, Known, held_at, level_at}
use Rattle.sync_rules.specs.Steps.{fate_held}
use Rattle.store_commands.specs.declared.listing.Listing.{Listing}
use Rattle.store_commands.specs.declared.listing.Listing.TheVariants as listing
use Rattle.sync_words.specs.EntryTexts.{contact_text, group_text, posted_text, set_level_text}
use Rattle.sync_words.specs.HeldTexts.{contacts_text, inbox_text, known_group_text}
use Rattle.sync_words.specs.HeldTexts.{message_state_text, sessions_text}

-- the line of the entry that a command adds
abbrev pub added_text : Entry → List ℕ
added_text (entry.Contact c) = contact_text c
added_text (entry.Group def) = group_text (group_id_of def)
added_text (entry.Level c g l) = set_level_text c g l
added_text (entry.Author m) = posted_text (message_id_of m)
added_text _ = []

-- ---- `show`

-- a group
abbrev pub group_line : Known → List ℕ
group_line g = known_group_text g.id g.def

-- a group's level for a contact, where it is not Invisible
abbrev pub level_line : ℕ → Id → Level → List ℕ
level_line contact group level.Invisible = []
level_line contact group level.Visible = set_level_text contact group level.Visible
level_line contact group level.Shared = set_level_text contact group level.Shared

abbrev pub group_level : Facts → ℕ → Known → List ℕ
group_level f contact g = level_line contact g.id (level_at f.levels contact g.id)

-- a contact's levels, group after group
abbrev pub contact_levels : Facts → ℕ → List ℕ
contact_levels f contact = flat_map (group_level f contact) f.groups

-- the levels of the contacts below this number, contact after contact
abbrev pub levels_below : Facts → ℕ → List ℕ
levels_below f zero = []
levels_below f (suc n) = levels_below f n ++ contact_levels f n

-- a held message with its state
abbrev pub message_line : Facts → Held → List ℕ
message_line f h = message_state_text h.id h.message.group (fate_held f h.id)

-- All that `show` prints: the contacts, the groups, the levels, the messages in order of arrival,
-- the number of sessions begun
abbrev pub show_text : Facts → List ℕ
show_text f =
    contacts_text f.contacts
    ++ (flat_map group_line f.groups
    ++ (levels_below f f.contacts ++ (flat_map (message_line f) f.held ++ sessions_text (f.begun))))

-- ---- `inbox`

abbrev pub delivered_line : Option Held → List ℕ
delivered_line None = []
delivered_line (Some h) =
    inbox_text h.id h.message.group h.message.timestamp h.origin (length h.message.body)

-- all that `inbox` prints: the delivered messages in the order of their delivery
abbrev pub inbox_of : Facts → List ℕ
inbox_of f = flat_map (λ id. delivered_line (held_at f.held id)) f.delivered

-- what `inbox FROM COUNT` prints: of these the lines at the places from one on, counted from 0, at most so many
abbrev pub inbox_from : Facts → ℕ → ℕ → List ℕ
inbox_from f from count =
    flat_map (λ id. delivered_line (held_at f.held id)) (take count (drop from f.delivered))

-- ---- what a command shows

-- what a command that only looks shows: a text, or it is refused
pub data Showing : Type 0 where
  denies : Refused → Showing
  shows : List ℕ → Showing

-- what a listing prints
abbrev pub listing_text : Listing → Facts → List ℕ
listing_text listing.Store f = show_text f
listing_text listing.Inbox f = inbox_of f
listing_text (listing.InboxFrom from count) f = inbox_from f from count

abbrev pub listing_shown : Listing → Facts → Showing
listing_shown what f = shows (listing_text what f)

-- `body`: the bytes of the body as they are, of a message that is held
abbrev pub body_held : Option Held → Showing
body_held None = denies refused.UnknownMessage
body_held (Some h) = shows h.message.body

abbrev pub body_shown : Id → Facts → Showing
body_shown id f = body_held (held_at f.held id)
