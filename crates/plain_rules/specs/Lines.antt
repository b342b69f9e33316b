-- The held messages as a plain view keeps them, and the tests of what is due.
use Rattle.std.specs.Prelude.{ℕ, suc, Bool, true, false, not, cond, ◌&&◌, ◌||◌, nat_le, List, [], ◌∷◌, ◌++◌, Option, Some, None}
use Rattle.std.specs.Option.{option_map}
use Rattle.sync_ids.specs.Ids.{message_id_of}
use Rattle.sync_rules.specs.declared.entries.Entry.{Entry}
use Rattle.sync_rules.specs.declared.entries.Entry.TheVariants as entry
use Rattle.sync_rules.specs.declared.entries.Mode.{Mode}
use Rattle.plain_rules.specs.declared.lines.HeldLine.{HeldLine}
use Rattle.sync_rules.specs.Lists.{same_id, is_among}
use Rattle.sync_rules.specs.Facts.{Facts, Held, Id, level_at, is_level_shared, row_at}
use Rattle.sync_rules.specs.Sessions.{goes_sooner, is_author, is_ripe}

-- what is kept of a held message
abbrev pub line_of : Held → HeldLine
line_of h = record { id = h.id; group = h.message.group; is_author = is_author h.origin }

abbrev pub lines_of : List Held → List HeldLine
lines_of [] = []
lines_of (h ∷ hs) = line_of h ∷ lines_of hs

-- the lines that an entry, entries and batches bring
abbrev pub line_by : Entry → List HeldLine
line_by (entry.Author m) = record { id = message_id_of m; group = m.group; is_author = true } ∷ []
line_by (entry.Arrive s m) = record { id = message_id_of m; group = m.group; is_author = false } ∷ []
line_by (entry.Kept from m) = record { id = message_id_of m; group = m.group; is_author = is_author from } ∷ []
line_by _ = []

abbrev pub lines_in : List Entry → List HeldLine
lines_in [] = []
lines_in (e ∷ es) = line_by e ++ lines_in es

abbrev pub lines_among : List (List Entry) → List HeldLine
lines_among [] = []
lines_among (b ∷ bs) = lines_in b ++ lines_among bs

-- the ids of the lines that pass a test, in order
abbrev pub line_ids : (HeldLine → Bool) → List HeldLine → List Id
line_ids test [] = []
line_ids test (l ∷ ls) = cond (test l) (l.id ∷ line_ids test ls) (line_ids test ls)

-- the place of the first line of an id
abbrev pub line_place : List HeldLine → Id → Option ℕ
line_place [] id = None
line_place (l ∷ ls) id = cond (same_id l.id id) (Some 0) (option_map suc (line_place ls id))

-- the tests of what is due, of a line
abbrev pub is_line_owed : Facts → ℕ → HeldLine → Bool
is_line_owed f contact l = (row_at f.rows contact l.id).owed

abbrev pub is_line_sendable : Facts → List Id → ℕ → HeldLine → Bool
is_line_sendable f shared contact l =
    is_among f.delivered l.id
    && (is_level_shared (level_at f.levels contact l.group) && (not (row_at f.rows contact l.id).seen && (l.is_author || is_among shared l.id)))

abbrev pub is_line_sent : Facts → List Id → ℕ → Mode → ℕ → HeldLine → Bool
is_line_sent f shared contact mode now l = is_line_sendable f shared contact l && is_ripe mode now (row_at f.rows contact l.id)

abbrev pub is_line_offered : Facts → List Id → ℕ → ℕ → HeldLine → Bool
is_line_offered f shared contact now l =
    is_line_sendable f shared contact l && (not (row_at f.rows contact l.id).asked && nat_le (row_at f.rows contact l.id).expiry now)

abbrev pub is_line_sooner : Facts → List Id → ℕ → ℕ → ℕ → HeldLine → Bool
is_line_sooner f shared contact latency now l = is_line_sendable f shared contact l && goes_sooner latency now (row_at f.rows contact l.id)
