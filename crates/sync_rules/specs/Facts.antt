-- What a journal makes known. A journal is a list of batches, and a batch is a list of one or more entries. Each part of
-- the facts is read off the entries by one scan from the first to the last: for each part there is one function that says
-- what one more entry makes of it.
use Rattle.std.specs.Prelude.{◌≡◌, ℕ, ◌+◌, ◌*◌, ◌-◌, ◌^◌, min, Bool, true, false, not, cond, ◌&&◌}
use Rattle.std.specs.Prelude.{◌||◌, nat_eq, List, [], ◌∷◌, ◌++◌, Option, Some, None, is_some}
use Rattle.std.specs.Prelude.{unwrap_or}
use Rattle.std.specs.Ordering.{nat_cmp, ordering_then}
use Rattle.std.specs.declared.cmp.Ordering.{Ordering}
use Rattle.std.specs.Cmp.Lexicographic.{slice_cmp}
use Rattle.std.specs.FinMap as fin_map
use Rattle.std.specs.FinSet as fin_set
use Rattle.sync_ids.specs.Values.{GroupValue, MessageValue}
use Rattle.sync_ids.specs.Ids.{group_id_of, message_id_of}
use Rattle.sync_rules.specs.declared.entries.Entry.{Entry}
use Rattle.sync_rules.specs.declared.entries.Entry.TheVariants as entry
use Rattle.sync_rules.specs.declared.entries.Out.{Out}
use Rattle.sync_rules.specs.declared.entries.Out.TheVariants as out
use Rattle.sync_rules.specs.declared.entries.Level.{Level}
use Rattle.sync_rules.specs.declared.entries.Level.TheVariants as level
use Rattle.sync_rules.specs.declared.entries.Session.{Session}
use Rattle.sync_rules.specs.declared.entries.Tried.{Tried}
use Rattle.sync_rules.specs.declared.states.Origin.{Origin}
use Rattle.sync_rules.specs.declared.states.Start.{Start}
use Rattle.sync_rules.specs.declared.states.Start.TheVariants as start
use Rattle.sync_rules.specs.declared.limits.TheConstants.{MAX_TRIES}
use Rattle.sync_rules.specs.declared.states.Origin.TheVariants as origin
use Rattle.sync_rules.specs.Lists.{same_id, is_among, without, firsts}

-- a journal: a list of batches, each a list of entries
abbrev pub Journal : Type 0
Journal = List (List Entry)

abbrev pub Id : Type 0
Id = List ℕ

-- the order of ids, by their bytes
abbrev pub id_cmp : Id → Id → Ordering
id_cmp = slice_cmp nat_cmp

-- a contact and an id: that of a group for levels, that of a message for rows
abbrev pub Pair : Type 0
Pair = ℕ × Id

abbrev pub pair_cmp : Pair → Pair → Ordering
pair_cmp a b = ordering_then (nat_cmp a.0 b.0) (id_cmp a.1 b.1)

-- ---- the parts

-- a known group: its definition and its id
pub record Known : Type 0 where
  pub def : GroupValue
  pub id : Id

-- a held message, with its id and where it came from
pub record Held : Type 0 where
  pub id : Id
  pub message : MessageValue
  pub origin : Origin

-- what is kept of a message for a contact: whether the contact has it, whether it waits for our acknowledgement, whether
-- it asked for it, how often the message was sent or offered to it since (at most MAX_TRIES), and the time in milliseconds from
-- which it may be sent or offered again
pub record Row : Type 0 where
  pub seen : Bool
  pub owed : Bool
  pub asked : Bool
  pub tries : ℕ
  pub expiry : ℕ

abbrev pub LevelMap : Type 0
LevelMap = fin_map.FinMap pair_cmp Level

abbrev pub Rows : Type 0
Rows = fin_map.FinMap pair_cmp Row

abbrev pub Wants : Type 0
Wants = fin_map.FinMap nat_cmp (List Id)

abbrev pub Ids : Type 0
Ids = fin_set.FinSet id_cmp

pub record Facts : Type 0 where
  -- how the journal began
  pub start : Start
  -- the number of contacts
  pub contacts : ℕ
  -- the groups in the order in which they were added
  pub groups : List Known
  -- the levels of the pairs that are not Invisible
  pub levels : LevelMap
  -- the number of sessions that have begun, those of them that a brief account did not drop in the order in which they
  -- began, and for each session number the records taken
  pub begun : ℕ
  pub sessions : List Session
  pub takes : fin_map.FinMap nat_cmp ℕ
  -- the messages written here, arrived or kept, in order
  pub held : List Held
  -- the ids of the judged and of the invalid messages
  pub judged : Ids
  pub invalid : Ids
  -- the ids of the delivered messages in the order of their delivery
  pub delivered : List Id
  -- the rows that are not all false and zero, and for each contact the ids wanted from it, in the order of their offers
  pub rows : Rows
  pub wanted : Wants

-- ---- look-ups

-- the first group of an id
abbrev pub group_at : List Known → Id → Option Known
group_at [] id = None
group_at (g ∷ gs) id = cond (same_id g.id id) (Some g) (group_at gs id)

-- the first held message of an id
abbrev pub held_at : List Held → Id → Option Held
held_at [] id = None
held_at (h ∷ hs) id = cond (same_id h.id id) (Some h) (held_at hs id)

abbrev pub is_held : List Held → Id → Bool
is_held held id = is_some (held_at held id)

-- the first session of a number; a session is found by its number, never by its place
abbrev pub session_at : List Session → ℕ → Option Session
session_at [] n = None
session_at (s ∷ ss) n = cond (nat_eq s.number n) (Some s) (session_at ss n)

abbrev pub contact_in : Option Session → ℕ
contact_in None = 0
contact_in (Some s) = s.contact

-- the contact of a session, 0 where there is no such session; a legal journal names no such session
abbrev pub contact_of : List Session → ℕ → ℕ
contact_of sessions n = contact_in (session_at sessions n)

-- the latency of a session in milliseconds
abbrev pub latency_in : Option Session → ℕ
latency_in None = 0
latency_in (Some s) = s.latency

abbrev pub latency_of : List Session → ℕ → ℕ
latency_of sessions n = latency_in (session_at sessions n)

-- a group's level for a contact (BSP, "Group visibility"): what was last set, else Invisible
abbrev pub level_at : LevelMap → ℕ → Id → Level
level_at levels contact group = unwrap_or (fin_map.get levels (contact, group)) level.Invisible

abbrev pub is_invisible : Level → Bool
is_invisible level.Invisible = true
is_invisible level.Visible = false
is_invisible level.Shared = false

abbrev pub is_level_shared : Level → Bool
is_level_shared level.Invisible = false
is_level_shared level.Visible = false
is_level_shared level.Shared = true

abbrev pub no_row : Row
no_row = record { seen = false; owed = false; asked = false; tries = 0; expiry = 0 }

abbrev pub is_no_row : Row → Bool
is_no_row r = not r.seen && (not r.owed && (not r.asked && (nat_eq r.tries 0 && nat_eq r.expiry 0)))

-- the row of a contact and a message
abbrev pub row_at : Rows → ℕ → Id → Row
row_at rows contact id = unwrap_or (fin_map.get rows (contact, id)) no_row

-- the ids wanted from a contact
abbrev pub wanted_from : Wants → ℕ → List Id
wanted_from wanted contact = unwrap_or (fin_map.get wanted contact) []

-- how many records were taken on a session
abbrev pub takes_of : fin_map.FinMap nat_cmp ℕ → ℕ → ℕ
takes_of takes n = unwrap_or (fin_map.get takes n) 0

-- ---- what one more entry makes of each part

-- a brief account begins an empty journal, and it goes on with contacts, groups, levels, kept messages and their settling,
-- rows and wanted ids
abbrev pub start_after : Start → Entry → Start
start_after start.Empty (entry.Brief n) = start.Opening
start_after start.Empty _ = start.Going
start_after start.Opening (entry.Contact c) = start.Opening
start_after start.Opening (entry.Group def) = start.Opening
start_after start.Opening (entry.Level contact group l) = start.Opening
start_after start.Opening (entry.Judged id) = start.Opening
start_after start.Opening (entry.Deliver id) = start.Opening
start_after start.Opening (entry.Invalid id) = start.Opening
start_after start.Opening (entry.Kept o m) = start.Opening
start_after start.Opening (entry.Tried t) = start.Opening
start_after start.Opening (entry.Want contact id) = start.Opening
start_after start.Opening _ = start.Going
start_after start.Going _ = start.Going

abbrev pub contacts_after : ℕ → Entry → ℕ
contacts_after n (entry.Contact c) = n + 1
contacts_after n _ = n

abbrev pub known_of : GroupValue → Known
known_of def = record { def = def; id = group_id_of def }

abbrev pub groups_after : List Known → Entry → List Known
groups_after groups (entry.Group def) = groups ++ known_of def ∷ []
groups_after groups _ = groups

abbrev pub put_level : LevelMap → Pair → Level → LevelMap
put_level levels pair level.Invisible = fin_map.remove levels pair
put_level levels pair level.Visible = fin_map.insert levels pair level.Visible
put_level levels pair level.Shared = fin_map.insert levels pair level.Shared

abbrev pub levels_after : LevelMap → Entry → LevelMap
levels_after levels (entry.Level contact group l) = put_level levels (contact, group) l
levels_after levels _ = levels

abbrev pub begun_after : ℕ → Entry → ℕ
begun_after n (entry.Session s) = n + 1
begun_after n (entry.Brief m) = n + m
begun_after n _ = n

abbrev pub sessions_after : List Session → Entry → List Session
sessions_after sessions (entry.Session s) = sessions ++ s ∷ []
sessions_after sessions _ = sessions

abbrev pub takes_after : fin_map.FinMap nat_cmp ℕ → Entry → fin_map.FinMap nat_cmp ℕ
takes_after takes (entry.Take s k) = fin_map.insert takes s (takes_of takes s + 1)
takes_after takes _ = takes

abbrev pub authored : MessageValue → Held
authored m = record { id = message_id_of m; message = m; origin = origin.Author }

abbrev pub arrived : ℕ → MessageValue → Held
arrived contact m = record { id = message_id_of m; message = m; origin = origin.From contact }

abbrev pub kept_as : Origin → MessageValue → Held
kept_as from m = record { id = message_id_of m; message = m; origin = from }

abbrev pub held_after : List Session → List Held → Entry → List Held
held_after sessions held (entry.Author m) = held ++ authored m ∷ []
held_after sessions held (entry.Arrive s m) = held ++ arrived (contact_of sessions s) m ∷ []
held_after sessions held (entry.Kept from m) = held ++ kept_as from m ∷ []
held_after sessions held _ = held

abbrev pub judged_after : Ids → Entry → Ids
judged_after judged (entry.Judged id) = fin_set.insert judged id
judged_after judged _ = judged

abbrev pub invalid_after : Ids → Entry → Ids
invalid_after invalid (entry.Invalid id) = fin_set.insert invalid id
invalid_after invalid _ = invalid

abbrev pub delivered_after : List Id → Entry → List Id
delivered_after delivered (entry.Deliver id) = delivered ++ id ∷ []
delivered_after delivered _ = delivered

-- ---- rows

abbrev pub put_row : Rows → Pair → Row → Rows
put_row rows pair r = cond (is_no_row r) (fin_map.remove rows pair) (fin_map.insert rows pair r)

-- one row changed, the others as they were
abbrev pub change_row : Rows → ℕ → Id → (Row → Row) → Rows
change_row rows contact id f = put_row rows (contact, id) (f (row_at rows contact id))

-- the rows of a contact changed for each of these ids
abbrev pub change_rows : Rows → ℕ → List Id → (Row → Row) → Rows
change_rows rows contact [] f = rows
change_rows rows contact (id ∷ ids) f = change_rows (change_row rows contact id f) contact ids f

-- the contact has the message, and waits for our acknowledgement
abbrev pub row_heard : Row → Row
row_heard r = record r { seen = true; owed = true }

-- the contact has the message
abbrev pub row_seen : Row → Row
row_seen r = record r { seen = true }

-- we acknowledged it
abbrev pub row_acked : Row → Row
row_acked r = record r { owed = false }

-- the contact asked for the message: it is due at once
abbrev pub row_asked : Row → Row
row_asked r = record r { asked = true; tries = 0; expiry = 0 }

-- the time from which a message may be sent or offered again: two ways of the session's latency, doubled with each try
-- (BSP, "Retransmission"); it stops at 2^64 - 1
abbrev pub expiry_after : ℕ → ℕ → ℕ → ℕ
expiry_after now latency tries = min (2 ^ 64 - 1) (now + 2 * latency * 2 ^ (tries - 1))

abbrev pub one_more_try : ℕ → ℕ
one_more_try tries = min MAX_TRIES (tries + 1)

-- the message was offered
abbrev pub row_offered : ℕ → ℕ → Row → Row
row_offered now latency r = record r { tries = one_more_try r.tries; expiry = expiry_after now latency (one_more_try r.tries) }

-- the message was sent
abbrev pub row_sent : ℕ → ℕ → Row → Row
row_sent now latency r = record r { asked = false; tries = one_more_try r.tries; expiry = expiry_after now latency (one_more_try r.tries) }

-- the time from which a message may be sent again, for one that was tried so often
abbrev pub wait_for : ℕ → ℕ → ℕ
wait_for tries expiry = cond (nat_eq tries 0) 0 expiry

-- what is kept of a row takes its place; only what the contact has stays what it has
abbrev pub row_tried : Tried → Row → Row
row_tried t r = record {
  seen = t.seen || r.seen;
  owed = t.owed;
  asked = t.asked;
  tries = min MAX_TRIES t.tries;
  expiry = wait_for t.tries t.expiry;
}

abbrev pub rows_after_out : Rows → ℕ → ℕ → ℕ → Out → Rows
rows_after_out rows contact now latency (out.Acks ids) = change_rows rows contact (firsts ids) row_acked
rows_after_out rows contact now latency (out.Requests ids) = rows
rows_after_out rows contact now latency (out.Offers ids) = change_rows rows contact (firsts ids) (row_offered now latency)
rows_after_out rows contact now latency (out.Send id) = change_row rows contact id (row_sent now latency)

abbrev pub rows_after : List Session → Rows → Entry → Rows
rows_after sessions rows (entry.Arrive s m) = change_row rows (contact_of sessions s) (message_id_of m) row_heard
rows_after sessions rows (entry.Again s id) = change_row rows (contact_of sessions s) id row_heard
rows_after sessions rows (entry.Seen s id) = change_row rows (contact_of sessions s) id row_seen
rows_after sessions rows (entry.Asked s id) = change_row rows (contact_of sessions s) id row_asked
rows_after sessions rows (entry.Out s now what) = rows_after_out rows (contact_of sessions s) now (latency_of sessions s) what
rows_after sessions rows (entry.Tried t) = change_row rows t.contact t.id (row_tried t)
rows_after sessions rows _ = rows

-- ---- wanted ids

-- each contact's list changed
abbrev pub change_each : (List Id → List Id) → List (ℕ × List Id) → List (ℕ × List Id)
change_each f [] = []
change_each f (e ∷ es) = (e.0, f e.1) ∷ change_each f es

-- a message that is held is wanted from nobody
abbrev pub wanted_by_none : Wants → Id → Wants
wanted_by_none wanted id = fin_map.from_entries (change_each (without id) (fin_map.entries wanted))

-- an id at the end of a list, where it is not held and not in the list
abbrev pub with_want : Bool → List Id → Id → List Id
with_want held ids id = cond (held || is_among ids id) ids (ids ++ id ∷ [])

-- a list without each of these ids
abbrev pub without_each : List Id → List Id → List Id
without_each [] ids = ids
without_each (x ∷ xs) ids = without_each xs (without x ids)

abbrev pub wanted_after_out : Wants → ℕ → Out → Wants
wanted_after_out wanted contact (out.Requests ids) = fin_map.insert wanted contact (without_each ids (wanted_from wanted contact))
wanted_after_out wanted contact _ = wanted

abbrev pub wanted_after : List Session → List Held → Wants → Entry → Wants
wanted_after sessions held wanted (entry.Contact c) = fin_map.insert wanted c (wanted_from wanted c)
wanted_after sessions held wanted (entry.Author m) = wanted_by_none wanted (message_id_of m)
wanted_after sessions held wanted (entry.Arrive s m) = wanted_by_none wanted (message_id_of m)
wanted_after sessions held wanted (entry.Offered s id) =
    fin_map.insert wanted (contact_of sessions s) (with_want (is_held held id) (wanted_from wanted (contact_of sessions s)) id)
wanted_after sessions held wanted (entry.Out s now what) = wanted_after_out wanted (contact_of sessions s) what
wanted_after sessions held wanted (entry.Kept from m) = wanted_by_none wanted (message_id_of m)
wanted_after sessions held wanted (entry.Want contact id) =
    fin_map.insert wanted contact (with_want (is_held held id) (wanted_from wanted contact) id)
wanted_after sessions held wanted _ = wanted

-- ---- the facts

abbrev pub nothing : Facts
nothing = record {
  start = start.Empty;
  contacts = 0;
  groups = [];
  levels = fin_map.empty;
  begun = 0;
  sessions = [];
  takes = fin_map.empty;
  held = [];
  judged = fin_set.empty;
  invalid = fin_set.empty;
  delivered = [];
  rows = fin_map.empty;
  wanted = fin_map.empty;
}

-- the facts after one more entry
abbrev pub after : Facts → Entry → Facts
after f e = record {
  start = start_after f.start e;
  contacts = contacts_after f.contacts e;
  groups = groups_after f.groups e;
  levels = levels_after f.levels e;
  begun = begun_after f.begun e;
  sessions = sessions_after f.sessions e;
  takes = takes_after f.takes e;
  held = held_after f.sessions f.held e;
  judged = judged_after f.judged e;
  invalid = invalid_after f.invalid e;
  delivered = delivered_after f.delivered e;
  rows = rows_after f.sessions f.rows e;
  wanted = wanted_after f.sessions f.held f.wanted e;
}

-- after all entries of a list
abbrev pub after_all : Facts → List Entry → Facts
after_all f [] = f
after_all f (e ∷ es) = after_all (after f e) es

-- after all batches of a list
abbrev pub after_batches : Facts → List (List Entry) → Facts
after_batches f [] = f
after_batches f (b ∷ bs) = after_batches (after_all f b) bs

-- what a journal makes known
abbrev pub facts : List (List Entry) → Facts
facts journal = after_batches nothing journal

-- the entries of a journal, batch after batch
abbrev pub entries_of : List (List Entry) → List Entry
entries_of [] = []
entries_of (b ∷ bs) = b ++ entries_of bs

-- one journal extends another where the batches of that one come first
abbrev pub ExtendsJournal : List (List Entry) → List (List Entry) → Type 0
ExtendsJournal journal before = (more : List (List Entry)) × (journal ≡ before ++ more)
