-- What plain facts stand for, and what holds of them.
use Rattle.std.specs.Prelude.{◌≡◌, ℕ, ◌<◌, ◌≤◌, true, false, ◌&&◌, List, Some, is_some, slice_get}
use Rattle.std.specs.List.{AllByRecursion, list_all}
use Rattle.sync_rules.specs.declared.entries.Entry.{Entry}
use Rattle.sync_rules.specs.declared.entries.Level.TheVariants as level
use Rattle.sync_rules.specs.Clients.{Meaning}
use Rattle.sync_rules.specs.Facts.{Facts, Held, Id, Known, LevelMap, Rows, after, group_at, is_held, is_invisible, level_at, no_row, row_at}
use Rattle.sync_rules.specs.Steps.{verdict_in}
use Rattle.journal_audit.specs.declared.facts.PlainFacts.{PlainFacts}
use Rattle.journal_audit.specs.declared.messages.Line.{Line}
use Rattle.journal_audit.specs.declared.ready.Ready.{Ready}
use Rattle.journal_audit.specs.Lines.{AreLines, Kept, delivered_in, held_in, ids_flagged, invalid_in, judged_in}
use Rattle.journal_audit.specs.Numbers.{has_for}
use Rattle.journal_audit.specs.Sleeping.{SleeperLists, WaitsOrRests}
use Rattle.journal_audit.specs.declared.early.Mark.{Mark}
use Rattle.journal_audit.specs.Early.{AreLate}
use Rattle.journal_audit.specs.Standing.{AreStanding, AreWithin, shares}

-- ---- the facts

abbrev pub facts_of : PlainFacts → Facts
facts_of p = record {
  start = p.start;
  contacts = p.contacts;
  groups = p.groups;
  levels = p.levels;
  begun = p.sessions.begun;
  sessions = p.sessions.listed;
  takes = p.sessions.takes;
  held = held_in p.messages.lines;
  judged = judged_in p.messages.lines;
  invalid = invalid_in p.messages.lines;
  delivered = delivered_in p.messages;
  rows = p.rows;
  wanted = p.wants;
}

-- the facts after one more entry, but for how the journal began
abbrev pub rest_after : Facts → Entry → Facts
rest_after f e = record (after f e) { start = f.start }

-- ---- what clients say

-- the ids of the judged messages that may be sent on
abbrev pub shared_in : List Line → List Id
shared_in lines = ids_flagged (λ l. l.judged && shares l.answer) lines

-- what is kept of each message is what its client says of it
abbrev pub KnowsMeanings : Meaning → PlainFacts → Type 0
KnowsMeanings clients p = AllByRecursion (λ l. l.answer ≡ verdict_in clients p.groups l.message) p.messages.lines

-- ---- what holds of the parts together

-- there are at most 256 contacts, and each group that is not Invisible to some contact is known, and the contact too
pub record HasPlainLevels (contacts : ℕ) (groups : List Known) (levels : LevelMap) : Type 0 where
  pub few : contacts ≤ 256
  pub shown : (contact : ℕ) (group : Id) → is_invisible (level_at levels contact group) ≡ false → is_some (group_at groups group) ≡ true
  pub hidden : (contact : ℕ) (group : Id) → contacts ≤ contact → level_at levels contact group ≡ level.Invisible

-- the group of each held message is known
abbrev pub AreGrouped : List Known → List Held → Type 0
AreGrouped groups held = list_all (λ h. is_some (group_at groups h.message.group)) held ≡ true

-- nothing is kept of a message that is not held
abbrev pub HasPlainRows : List Held → Rows → Type 0
HasPlainRows held rows = (contact : ℕ) (id : Id) → is_held held id ≡ false → row_at rows contact id ≡ no_row

-- a message that is not among those owed waits for no acknowledgement
abbrev pub OwesAcks : List Held → Rows → List (List ℕ) → Type 0
OwesAcks held rows owed =
    (contact n : ℕ) (h : Held) → contact < 256 → slice_get held n ≡ Some h → has_for owed contact n ≡ false → (row_at rows contact h.id).owed ≡ false

pub record AreSound (contacts : ℕ) (groups : List Known) (levels : LevelMap) (kept : Kept) (rows : Rows) (waiting : List ℕ) (sleepers : SleeperLists) (owed : List (List ℕ)) (ready : Ready) (early : List Mark) : Type 0 where
  pub lines : AreLines kept
  pub levels_fit : HasPlainLevels contacts groups levels
  pub grouped : AreGrouped groups (held_in kept.lines)
  pub rows_fit : HasPlainRows (held_in kept.lines) rows
  pub waits : WaitsOrRests kept waiting sleepers
  pub owes : OwesAcks (held_in kept.lines) rows owed
  pub stand : AreStanding levels kept rows ready
  pub within : AreWithin kept ready
  pub late : AreLate kept rows early

abbrev pub IsPlainSound : PlainFacts → Type 0
IsPlainSound p = AreSound p.contacts p.groups p.levels p.messages p.rows p.waiting p.sleepers p.owed p.ready p.early
