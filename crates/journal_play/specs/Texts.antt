-- What a journal of one session is shown as: a line for each entry that delivers a message or says that it is invalid, and
-- then a line for each held message that has no such entry.
use Rattle.std.specs.Prelude.{ℕ, cond, List, [], ◌∷◌, ◌++◌, Option, Some, None, length}
use Rattle.sync_ids.specs.Values.{MessageValue}
use Rattle.sync_rules.specs.declared.entries.Entry.{Entry}
use Rattle.sync_rules.specs.declared.entries.Entry.TheVariants as entry
use Rattle.sync_rules.specs.declared.states.Fate.{Fate}
use Rattle.sync_rules.specs.declared.states.Fate.TheVariants as fate_kind
use Rattle.sync_rules.specs.Facts.{Facts, Held, Id, facts, entries_of, held_at}
use Rattle.sync_rules.specs.Steps.{is_ended}
use Rattle.sync_words.specs.StreamTexts.{try_text}

-- what a line says: the state of the message of an id
abbrev pub FateLine : Type 0
FateLine = Fate × Id

-- what an entry says of the end of a message
abbrev pub told_by : Entry → List FateLine
told_by (entry.Deliver id) = (fate_kind.Delivered, id) ∷ []
told_by (entry.Invalid id) = (fate_kind.Invalid, id) ∷ []
told_by _ = []

-- what the entries say, in their order
abbrev pub ends_told : List Entry → List FateLine
ends_told [] = []
ends_told (e ∷ es) = told_by e ++ ends_told es

-- the messages that have no end, in order of arrival
abbrev pub unended : Facts → List Held → List FateLine
unended f [] = []
unended f (h ∷ hs) = cond (is_ended f h.id) (unended f hs) ((fate_kind.Pending, h.id) ∷ unended f hs)

-- all that is shown of a journal
abbrev pub lines_of : List (List Entry) → List FateLine
lines_of journal = ends_told (entries_of journal) ++ unended (facts journal) (facts journal).held

-- ---- as text

-- the line of a message under this id
abbrev pub line_of : Fate → Id → MessageValue → List ℕ
line_of state id m = try_text state id m.timestamp (length m.body)

abbrev pub line_at : Fate → Id → Option Held → List ℕ
line_at state id None = []
line_at state id (Some h) = line_of state id h.message

abbrev pub told_line : List Held → FateLine → List ℕ
told_line held line = line_at line.0 line.1 (held_at held line.1)

-- the lines as text
abbrev pub lines_text : List Held → List FateLine → List ℕ
lines_text held [] = []
lines_text held (line ∷ lines) = told_line held line ++ lines_text held lines

-- what is printed of a journal
abbrev pub play_text : List (List Entry) → List ℕ
play_text journal = lines_text (facts journal).held (lines_of journal)
