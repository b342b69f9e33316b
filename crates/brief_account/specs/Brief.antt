-- The brief account of a settled journal: another journal that makes known the same, but for the sessions that are over.
use Rattle.std.specs.Prelude.{ℕ, zero, suc, Bool, true, false, cond, nat_lt, List, [], ◌∷◌, ◌++◌, length}
use Rattle.std.specs.FinMap as fin_map
use Rattle.sync_rules.specs.declared.entries.Entry.{Entry}
use Rattle.sync_rules.specs.declared.entries.Entry.TheVariants as entry
use Rattle.sync_rules.specs.declared.entries.Level.{Level}
use Rattle.sync_rules.specs.declared.entries.Level.TheVariants as level
use Rattle.sync_rules.specs.declared.states.Origin.TheVariants as origin
use Rattle.sync_rules.specs.declared.states.Start.TheVariants as start
use Rattle.sync_rules.specs.declared.limits.TheConstants.{MAX_ROWS, MAX_STEPS}
use Rattle.sync_rules.specs.Facts.{Facts, Held, Id, Known, LevelMap, Row, Rows, after, contact_of, entries_of, facts, is_no_row, level_at, nothing, row_at, wanted_from}

-- ---- contacts, groups and levels

-- a Contact entry for each number below this
abbrev pub contact_entries : ℕ → List Entry
contact_entries zero = []
contact_entries (suc n) = contact_entries n ++ entry.Contact n ∷ []

abbrev pub group_entries : List Known → List Entry
group_entries [] = []
group_entries (g ∷ gs) = entry.Group g.def ∷ group_entries gs

-- a Level entry where the level is not Invisible
abbrev pub level_entry : ℕ → Id → Level → List Entry
level_entry contact group level.Invisible = []
level_entry contact group level.Visible = entry.Level contact group level.Visible ∷ []
level_entry contact group level.Shared = entry.Level contact group level.Shared ∷ []

-- those of a contact, in the order of the groups
abbrev pub levels_of : LevelMap → ℕ → List Known → List Entry
levels_of levels contact [] = []
levels_of levels contact (g ∷ gs) = level_entry contact g.id (level_at levels contact g.id) ++ levels_of levels contact gs

-- those of the contacts below this number
abbrev pub level_entries : LevelMap → List Known → ℕ → List Entry
level_entries levels groups zero = []
level_entries levels groups (suc n) = level_entries levels groups n ++ levels_of levels n groups

-- each entry a batch of its own
abbrev pub each_alone : List Entry → List (List Entry)
each_alone [] = []
each_alone (e ∷ es) = (e ∷ []) ∷ each_alone es

-- how a brief account begins: the number of sessions, the contacts, the groups and the levels
abbrev pub head_entries : Facts → List Entry
head_entries f =
    entry.Brief f.begun
    ∷ (contact_entries f.contacts ++ group_entries f.groups ++ level_entries f.levels f.groups f.contacts)

-- ---- messages

-- what is told of an entry: a message that it brings is kept with the origin that it has, and a step is made as it was
abbrev pub told : Facts → Entry → List Entry
told f (entry.Author m) = entry.Kept origin.Author m ∷ []
told f (entry.Arrive s m) = entry.Kept (origin.From (contact_of f.sessions s)) m ∷ []
told f (entry.Kept from m) = entry.Kept from m ∷ []
told f (entry.Judged id) = entry.Judged id ∷ []
told f (entry.Deliver id) = entry.Deliver id ∷ []
told f (entry.Invalid id) = entry.Invalid id ∷ []
told f _ = []

-- what is told of entries, the facts before the first being given
abbrev pub retold : Facts → List Entry → List Entry
retold f [] = []
retold f (e ∷ es) = told f e ++ retold (after f e) es

-- ---- rows and wanted ids

-- what is kept of a row, where it is not empty
abbrev pub row_entry : ℕ → Id → Row → List Entry
row_entry contact id r =
    cond (is_no_row r) []
    (entry.Tried (record { contact = contact; id = id; seen = r.seen; owed = r.owed; asked = r.asked; tries = r.tries; expiry = r.expiry }) ∷ [])

-- the rows of a contact, in the order in which the messages arrived
abbrev pub row_entries : Rows → ℕ → List Held → List Entry
row_entries rows contact [] = []
row_entries rows contact (h ∷ hs) = row_entry contact h.id (row_at rows contact h.id) ++ row_entries rows contact hs

abbrev pub want_entries : ℕ → List Id → List Entry
want_entries contact [] = []
want_entries contact (id ∷ ids) = entry.Want contact id ∷ want_entries contact ids

-- the rows and then the wanted ids of each contact below this number
abbrev pub peer_entries : Facts → ℕ → List Entry
peer_entries f zero = []
peer_entries f (suc n) = peer_entries f n ++ row_entries f.rows n f.held ++ want_entries n (wanted_from f.wanted n)

-- ---- batches

-- a batch that has an entry
abbrev pub closed : List Entry → List (List Entry)
closed [] = []
closed (e ∷ es) = (e ∷ es) ∷ []

-- entries cut into batches: one that is to stand alone is a batch of its own, the others fill batches of this many; `front`
-- is the batch that is being filled
abbrev pub filled : ℕ → (Entry → Bool) → List Entry → List Entry → List (List Entry)
filled most alone front [] = closed front
filled most alone front (e ∷ es) =
    cond (alone e) (closed front ++ (e ∷ []) ∷ filled most alone [] es)
    (cond (nat_lt (length front) most) (filled most alone (front ++ e ∷ []) es) (front ∷ filled most alone (e ∷ []) es))

abbrev pub is_kept : Entry → Bool
is_kept (entry.Kept from m) = true
is_kept _ = false

abbrev pub never_alone : Entry → Bool
never_alone e = false

-- a brief account with these facts, that tells this of the messages
abbrev pub account_with : Facts → List Entry → List (List Entry)
account_with f told =
    each_alone (head_entries f) ++ filled MAX_STEPS is_kept [] told
    ++ filled MAX_ROWS never_alone [] (peer_entries f f.contacts)

-- the brief account of a journal
abbrev pub brief : List (List Entry) → List (List Entry)
brief journal = account_with (facts journal) (retold nothing (entries_of journal))

-- the facts of a journal without its sessions, as a brief account makes them known
abbrev pub without_sessions : Facts → Facts
without_sessions f = record f { start = start.Opening; sessions = []; takes = fin_map.empty }
