-- How far a journal is copied: a reader in the one file, and a writer in the other.
use Rattle.std.specs.Prelude.{◌≡◌, ◌≢◌, ℕ, ◌+◌, ◌-◌, ◌^◌, ◌<◌, ◌≤◌, min, List, [], ◌∷◌, ◌++◌}
use Rattle.std.specs.Prelude.{length, true, Option, None, Some, Result, Ok, Err}
use Rattle.std.specs.Int.{w64, to_be_bytes}
use Rattle.std.specs.List.{AllByRecursion}
use Rattle.outside.specs.declared.limits.TheConstants.{MAX_JOURNAL}
use Rattle.outside.specs.Files.{Two, File, NothingPending, file_of, read_files}
use Rattle.outside.specs.Frames.{HasFrames, IsAtRest, closed, end_of, frame_at, is_open}
use Rattle.outside.specs.Outside.{Outside}
use Rattle.frame_journal.specs.Append.{framed_of}
use Rattle.frame_journal.specs.Group.{IsGroup, IsJoined, group_len}
use Rattle.frame_journal.specs.Journal.{JournalValue}
use Rattle.sync_rules.specs.declared.entries.Entry.{Entry}
use Rattle.sync_rules.specs.declared.entries.Entry.TheVariants as entry
use Rattle.sync_rules.specs.Clients.{Meaning}
use Rattle.sync_rules.specs.Facts.{Facts, facts, nothing}
use Rattle.entry_codec.specs.declared.naming.Format.TheVariants as kind
use Rattle.entry_codec.specs.Fronts.{Front}
use Rattle.entry_codec.specs.Payloads.{batch_in, journal_end, payloads, spellings}
use Rattle.entry_codec.specs.Spelling.{IsEntry}
use Rattle.journal_migration.specs.Migrating.{HoldsFirst, KeepsJournal, other_number}
use Rattle.journal_migration.specs.declared.fault.MigrationFault.{MigrationFault}
use Rattle.journal_migration.specs.declared.fault.MigrationFault.TheVariants as fault

-- ---- messages

-- how many messages entries bring
abbrev pub one_brought : Entry → ℕ
one_brought (entry.Author m) = 1
one_brought (entry.Arrive s m) = 1
one_brought (entry.Kept from m) = 1
one_brought _ = 0

abbrev pub brought_by : List Entry → ℕ
brought_by [] = 0
brought_by (e ∷ es) = one_brought e + brought_by es

-- a count that stands still at 2^32 - 1
abbrev pub counted_to : ℕ → ℕ
counted_to n = min n (2 ^ 32 - 1)

-- What a payload of format 1 is in format 2, where these messages are held before it: its batch is
-- within its limits, these bytes frame it, and it brings so many messages.
pub record IsRespelled (names : List (List ℕ)) (to framed : List ℕ) (brought : ℕ) : Type 0 where
  pub batch : List Entry
  pub read : batch_in kind.Whole names to ≡ Some batch
  pub spelled : to ≡ spellings kind.Whole names batch
  pub within : AllByRecursion IsEntry batch
  pub some : 1 ≤ length (spellings kind.Short names batch)
  pub no_longer : length (spellings kind.Short names batch) ≤ length to
  pub framed_is : framed ≡ framed_of (spellings kind.Short names batch)
  pub brings : brought ≡ counted_to (brought_by batch)

-- ---- a reader and a writer

-- a reader of the one file, and a writer of the other that has not come as far
pub record IsPair (r n : JournalValue) : Type 0 where
  pub reads : r.file < 2
  pub writes : n.file ≡ other_number r.file
  pub begun : 15 ≤ r.end
  pub behind : n.end ≤ r.end
  pub bounded : r.end ≤ MAX_JOURNAL

-- a reader moved on, where a frame was read
abbrev pub IsFurther : Option ℕ → JournalValue → JournalValue → Type 0
IsFurther None r r' = r' ≡ r
IsFurther (Some brought) r r' = r.end < r'.end

-- the files, formats and generations are as before
pub record IsSamePair (r r' n n' : JournalValue) : Type 0 where
  pub reader_file : r'.file ≡ r.file
  pub reader_generation : r'.generation ≡ r.generation
  pub writer_file : n'.file ≡ n.file
  pub writer_format : n'.format ≡ n.format
  pub writer_generation : n'.generation ≡ n.generation

-- a file has all of an open header but the gate, which is closed, and some frames up to the end
pub record IsShut (bytes : List ℕ) (end : ℕ) : Type 0 where
  pub gate : ℕ
  pub behind : List ℕ
  pub payloads : List (List ℕ)
  pub closed : gate ≢ 1
  pub header : is_open (1 ∷ behind) ≡ true
  pub frames : HasFrames bytes (gate ∷ behind) payloads
  pub end_is : end ≡ end_of payloads

-- nothing is pending in either file, the reader knows the length of its own, and the writer's is
-- shut at its end
pub record AreBothShut (r n : JournalValue) (two : Two File) : Type 0 where
  pub first_settled : NothingPending two 0
  pub second_settled : NothingPending two 1
  pub long : length (file_of two r.file).now ≡ r.len
  pub at_rest : IsAtRest two n.file n.end
  pub shut : IsShut (file_of two n.file).now n.end

-- the 13 bytes of a header of format 2 behind its gate
abbrev pub header_mark : ℕ → List ℕ
header_mark generation = 66 ∷ 83 ∷ 80 ∷ 74 ∷ 2 ∷ to_be_bytes w64 generation

-- The files hold a journal of format 1 in the reader's file, and these facts are the journal's. The
-- reader has come to the gate behind some batches of it, a front; they stand in the writer's file
-- in format 2, behind a closed gate and what else a header has. So many messages are held behind
-- them.
pub record CopiesBatches (clients : Meaning) (f : Facts) (generation : ℕ) (j : List (List Entry))
    (r n : JournalValue) (count : ℕ) (two : Two File) : Type 0 where
  pub holds : HoldsFirst clients r.file generation j two
  pub facts_are : facts j ≡ f
  pub done : List (List Entry)
  pub front : Front clients (read_files two) r.file kind.Whole done r.end
  pub left : List (List Entry)
  pub goes_on : j ≡ done ++ left
  pub gate : ℕ
  pub closed : gate ≢ 1
  pub frames : HasFrames (file_of two n.file).now (gate ∷ header_mark (generation + 1))
      (payloads kind.Short nothing done)
  pub end_is : n.end ≡ journal_end kind.Short done
  pub counted : count ≡ length (facts done).held

-- ---- frames that wait

-- some frames wait in a group, and with them the writer has not come as far as the reader
pub record IsGathering (r n : JournalValue) (group : List ℕ) : Type 0 where
  pub waits : IsGroup group
  pub behind : n.end + group_len group ≤ r.end

-- The same, where the writer's file has but the first of these frames, and those with these payloads
-- are still to be written.
pub record OwesFrames (clients : Meaning) (f : Facts) (generation : ℕ) (j : List (List Entry))
    (r n : JournalValue) (waiting : List (List ℕ)) (count : ℕ) (two : Two File) : Type 0 where
  pub holds : HoldsFirst clients r.file generation j two
  pub facts_are : facts j ≡ f
  pub done : List (List Entry)
  pub front : Front clients (read_files two) r.file kind.Whole done r.end
  pub left : List (List Entry)
  pub goes_on : j ≡ done ++ left
  pub gate : ℕ
  pub closed : gate ≢ 1
  pub kept : List (List ℕ)
  pub parts : kept ++ waiting ≡ payloads kind.Short nothing done
  pub frames : HasFrames (file_of two n.file).now (gate ∷ header_mark (generation + 1)) kept
  pub end_is : n.end ≡ end_of kept
  pub counted : count ≡ length (facts done).held

-- and these wait in a group
pub record GathersBatches (clients : Meaning) (f : Facts) (generation : ℕ) (j : List (List Entry))
    (r n : JournalValue) (group : List ℕ) (count : ℕ) (two : Two File) : Type 0 where
  pub waiting : List (List ℕ)
  pub joined : IsJoined waiting group
  pub owes : OwesFrames clients f generation j r n waiting count two

-- the reader is at the closed gate behind all frames
abbrev pub IsAtLastGate : JournalValue → Two File → Type 0
IsAtLastGate r two = frame_at (file_of (read_files two) r.file) (r.end - 1) ≡ closed

-- ---- a frame copied

abbrev pub GathersSo : Meaning → Facts → (generation : ℕ) → List (List Entry) → (file : ℕ)
    → (r n : JournalValue) → (group : List ℕ) → (count : ℕ) → Result (Option ℕ) MigrationFault
    → Two File → Type 0
GathersSo clients f generation j file r n group count (Ok (Some brought)) two =
    GathersBatches clients f generation j r n group (counted_to (count + brought)) two
GathersSo clients f generation j file r n group count (Ok None) two =
    GathersBatches clients f generation j r n group count two × IsAtLastGate r two
GathersSo clients f generation j file r n group count (Err fault.Memory) two =
    HoldsFirst clients file generation j two
GathersSo clients f generation j file r n group count (Err fault.DiskFault) two = Unit {0}

-- at each moment the files stand for the journal, and at the end a frame more is copied or waits, or
-- there is none
abbrev pub GathersNext : Meaning → Facts → (generation : ℕ) → List (List Entry) → (file : ℕ)
    → (r n : JournalValue) → (group : List ℕ) → (count : ℕ) → (old new : Outside)
    → Result (Option ℕ) MigrationFault → Type 0
GathersNext clients f generation j file r n group count old new result =
    KeepsJournal clients j (GathersSo clients f generation j file r n group count result) old new

-- ---- all frames

-- a whole journal is copied
pub record CopiesWhole (clients : Meaning) (generation : ℕ) (j : List (List Entry))
    (r n : JournalValue) (two : Two File) : Type 0 where
  pub f : Facts
  pub count : ℕ
  pub copies : CopiesBatches clients f generation j r n count two
  pub at_end : IsAtLastGate r two

-- the same, where frames of it still wait
pub record GathersWhole (clients : Meaning) (generation : ℕ) (j : List (List Entry))
    (r n : JournalValue) (group : List ℕ) (two : Two File) : Type 0 where
  pub f : Facts
  pub count : ℕ
  pub gathers : GathersBatches clients f generation j r n group count two
  pub at_end : IsAtLastGate r two

abbrev pub GathersAllSo : Meaning → (generation : ℕ) → List (List Entry) → (file : ℕ)
    → (r n : JournalValue) → (group : List ℕ) → Result (Unit {0}) MigrationFault → Two File
    → Type 0
GathersAllSo clients generation j file r n group (Ok u) two =
    GathersWhole clients generation j r n group two
GathersAllSo clients generation j file r n group (Err fault.Memory) two =
    HoldsFirst clients file generation j two
GathersAllSo clients generation j file r n group (Err fault.DiskFault) two = Unit {0}

abbrev pub GathersAll : Meaning → (generation : ℕ) → List (List Entry) → (file : ℕ)
    → (r n : JournalValue) → (group : List ℕ) → (old new : Outside)
    → Result (Unit {0}) MigrationFault → Type 0
GathersAll clients generation j file r n group old new result =
    KeepsJournal clients j (GathersAllSo clients generation j file r n group result) old new

abbrev pub CopiesAllSo : Meaning → (generation : ℕ) → List (List Entry) → (file : ℕ)
    → (r n : JournalValue) → Result (Unit {0}) MigrationFault → Two File → Type 0
CopiesAllSo clients generation j file r n (Ok u) two = CopiesWhole clients generation j r n two
CopiesAllSo clients generation j file r n (Err fault.Memory) two =
    HoldsFirst clients file generation j two
CopiesAllSo clients generation j file r n (Err fault.DiskFault) two = Unit {0}

abbrev pub CopiesAll : Meaning → (generation : ℕ) → List (List Entry) → (file : ℕ)
    → (r n : JournalValue) → (old new : Outside) → Result (Unit {0}) MigrationFault → Type 0
CopiesAll clients generation j file r n old new result =
    KeepsJournal clients j (CopiesAllSo clients generation j file r n result) old new
