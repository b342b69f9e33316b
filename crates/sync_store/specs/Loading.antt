-- What a load answers, and how far it has come.
use Rattle.std.specs.Prelude.{◌≡◌, ◌⊎◌, ℕ, ◌+◌, ◌*◌, ◌-◌, ◌<◌, ◌≤◌, Bool, true, false, List, length}
use Rattle.std.specs.Prelude.{Option, None, Some, Result, Ok, Err, IfOk, OnOk}
use Rattle.std.specs.List.{AllByRecursion}
use Rattle.outside.specs.Files.{File, SyncsBoth, Two, file_of, read_files}
use Rattle.outside.specs.Frames.{closed, format_in, frame_at, generation_in}
use Rattle.outside.specs.Disk.{RelatesTold}
use Rattle.outside.specs.Outside.{Outside, MakesAtMost, MakesJust}
use Rattle.outside.specs.declared.disk.Place.{Place}
use Rattle.frame_journal.specs.Journal.{JournalValue}
use Rattle.frame_journal.specs.Next.{FrameCalls}
use Rattle.sync_rules.specs.declared.entries.Entry.{Entry}
use Rattle.sync_rules.specs.Clients.{Meaning}
use Rattle.sync_rules.specs.Facts.{after_all, facts, nothing}
use Rattle.sync_rules.specs.Allows.{allows}
use Rattle.entry_codec.specs.declared.naming.Format.{Format}
use Rattle.entry_codec.specs.Naming.{format_of}
use Rattle.entry_codec.specs.Spelling.{IsEntry}
use Rattle.entry_codec.specs.Payloads.{batch_of, payload}
use Rattle.entry_codec.specs.Standing.{damaged, journal, no_store, room_of}
use Rattle.file_standing.specs.Standing.{stands}
use Rattle.entry_codec.specs.Fronts.{Front}
use Rattle.journal_state.specs.Whole.{KnowsJudgements, StateValue}
use Rattle.outside.specs.declared.limits.TheConstants.{MAX_JOURNAL}
use Rattle.sync_store.specs.Store.{HasNumbers, StoreValue, format_meant}
use Rattle.sync_store.specs.declared.fault.LoadFault.{LoadFault}
use Rattle.sync_store.specs.declared.fault.LoadFault.TheVariants as load

-- ---- what a load answers

-- the files stand for a journal with these facts
pub record StandsFor (clients : Meaning) (files : Two (List ℕ)) (s : StoreValue) : Type 0 where
  pub done : List (List Entry)
  pub stands_for : stands clients files ≡ journal done
  pub facts_are : facts done ≡ s.state.facts

-- the answer is what the files stand for
abbrev pub IsJournalLoaded : Meaning → Two (List ℕ) → Result StoreValue LoadFault → Type 0
IsJournalLoaded clients files (Ok s) = StandsFor clients files s
IsJournalLoaded clients files (Err load.NoStore) = stands clients files ≡ no_store
IsJournalLoaded clients files (Err (load.Damaged place)) =
    stands clients files ≡ damaged place.file place.at
IsJournalLoaded clients files (Err load.DiskFault) = Unit {0}
IsJournalLoaded clients files (Err load.Memory) = Unit {0}

-- But for a fault of the disk the files read as before, with nothing pending in them.
abbrev pub LeavesSettled : Option (Two File) → Option (Two File) → Result StoreValue LoadFault
    → Type 0
LeavesSettled old new (Ok s) = RelatesTold SyncsBoth old new
LeavesSettled old new (Err load.NoStore) = RelatesTold SyncsBoth old new
LeavesSettled old new (Err (load.Damaged place)) = RelatesTold SyncsBoth old new
LeavesSettled old new (Err load.DiskFault) = Unit {0}
LeavesSettled old new (Err load.Memory) = RelatesTold SyncsBoth old new

-- ---- how far a reader has come

-- the batches that were read of these files
pub record HasReadBatches (clients : Meaning) (two : Two File) (j : JournalValue)
    (s : StateValue) : Type 0 where
  pub long : length (file_of two j.file).now ≡ j.len
  pub known_format : format_of j.format ≡ Some (format_meant j.format)
  pub format_is : format_in (file_of two j.file).now ≡ j.format
  pub known_generation : generation_in (file_of two j.file).now ≡ j.generation
  pub done : List (List Entry)
  pub front : Front clients (read_files two) j.file (format_meant j.format) done j.end
  pub facts_are : facts done ≡ s.facts

-- so many batches were read of these files
pub record HasReadSome (clients : Meaning) (two : Two File) (j : JournalValue) (s : StateValue)
    (batches : ℕ) : Type 0 where
  pub read : HasReadBatches clients two j s
  pub counted : length read.done ≡ batches

-- where the files are told, a batch more was read, or none was left
abbrev pub ReadsMore : Meaning → Option (Two File) → JournalValue → JournalValue → StateValue
    → StateValue → Result Bool LoadFault → Type 0
ReadsMore clients files j j' s s' (Ok true) =
    (two : Two File) → files ≡ Some two → (batches : ℕ) → HasReadSome clients two j s batches
    → HasReadSome clients two j' s' (batches + 1)
ReadsMore clients files j j' s s' (Ok false) =
    (two : Two File) → files ≡ Some two → (batches : ℕ) → HasReadSome clients two j s batches
    → HasReadSome clients two j' s' batches
ReadsMore clients files j j' s s' (Err e) = Unit {0}

-- a frame takes two calls of the disk, and the closed gate one
pub record TurnCalls {E : Type 0} (result : Result Bool E) (old new : Outside) : Type 0 where
  pub just : IfOk result (λ more. FrameCalls more old new)
  pub most : MakesAtMost 2 old new

-- How many calls of the disk it takes to read the frames of so many batches: two for each, and one
-- at the closed gate. Where it fails, at most one more.
pub record ReadsWithin {T E : Type 0} (batches : ℕ) (result : Result T E)
    (old new : Outside) : Type 0 where
  pub just : OnOk result (MakesJust (2 * batches + 1) old new)
  pub most : MakesAtMost (2 * batches + 2) old new

-- how many calls of the disk a load of a journal of so many batches takes: two for the barrier,
-- three for the header and the length, and those for the frames
pub record LoadsWithin {T E : Type 0} (batches : ℕ) (result : Result T E)
    (old new : Outside) : Type 0 where
  pub just : OnOk result (MakesJust (2 * batches + 6) old new)
  pub most : MakesAtMost (2 * batches + 7) old new

-- so many where the files are told and stand for a journal
abbrev pub ReadsIn : {T E : Type 0} → Meaning → Result T E → (old new : Outside) → Type 0
ReadsIn clients result old new =
    (two : Two File) → old.files ≡ Some two → (done : List (List Entry))
    → stands clients (read_files two) ≡ journal done → ReadsWithin (length done) result old new

abbrev pub LoadsIn : {T E : Type 0} → Meaning → Result T E → (old new : Outside) → Type 0
LoadsIn clients result old new =
    (two : Two File) → old.files ≡ Some two → (done : List (List Entry))
    → stands clients (read_files two) ≡ journal done → LoadsWithin (length done) result old new

-- A reader of a journal's file has played the batches up to its gate: the state is that of these
-- batches.
pub record PlayedSoFar (clients : Meaning) (files : Option (Two File)) (j : JournalValue)
    (s : StateValue) : Type 0 where
  pub knows : KnowsJudgements clients s
  pub numbers : HasNumbers s.facts j.end
  pub started : 15 ≤ j.end
  pub bounded : j.end ≤ MAX_JOURNAL
  -- the place of the last frame is that of a frame, once there was one
  pub begun : j.last < 14 → s.facts ≡ nothing
  pub known : (two : Two File) → files ≡ Some two → HasReadBatches clients two j s

-- no gate that is open follows
abbrev pub IsAtJournalEnd : Option (Two File) → JournalValue → Type 0
IsAtJournalEnd files j =
    (two : Two File) → files ≡ Some two → frame_at (file_of (read_files two) j.file) (j.end - 1)
    ≡ closed

-- the files are damaged there
abbrev pub AreDamaged : Meaning → Option (Two File) → Place → Type 0
AreDamaged clients files place =
    (two : Two File) → files ≡ Some two
    → stands clients (read_files two) ≡ damaged place.file place.at

-- ---- a batch that is played

-- a payload of this format was played: its batch is allowed, and the state is that behind it
pub record HasPlayedFrame (clients : Meaning) (format : Format) (s s' : StateValue)
    (to : List ℕ) : Type 0 where
  pub batch : List Entry
  pub read : batch_of format s.facts to ≡ Some batch
  pub spelled : to ≡ payload format s.facts batch
  pub within : AllByRecursion IsEntry batch
  pub allowed : allows clients s.facts batch ≡ true
  pub facts_are : s'.facts ≡ after_all s.facts batch
  pub knows : KnowsJudgements clients s'

-- a payload is none of a batch that is allowed
abbrev pub IsPayloadRefused : Meaning → Format → StateValue → List ℕ → Type 0
IsPayloadRefused clients format s to =
    (batch_of format s.facts to ≡ None)
    ⊎ ((batch : List Entry) × (batch_of format s.facts to ≡ Some batch)
    × (allows clients s.facts batch ≡ false))

-- what playing the last frame that was read answers
abbrev pub PlaysFrame : Meaning → JournalValue → StateValue → StateValue → List ℕ
    → Result (Unit {0}) LoadFault → Type 0
PlaysFrame clients j s s' to (Ok _) = HasPlayedFrame clients (format_meant j.format) s s' to
PlaysFrame clients j s s' to (Err load.NoStore) = ⊥
PlaysFrame clients j s s' to (Err (load.Damaged place)) =
    (place.file ≡ j.file) × (place.at ≡ j.last)
    × IsPayloadRefused clients (format_meant j.format) s to
PlaysFrame clients j s s' to (Err load.DiskFault) = ⊥
PlaysFrame clients j s s' to (Err load.Memory) = Unit {0}

-- ---- a turn of the reader

-- what reading and playing the next frame answers
abbrev pub PlaysNextFrame : Meaning → Option (Two File) → JournalValue → JournalValue → StateValue
    → Result Bool LoadFault → Type 0
PlaysNextFrame clients files j j' s' (Ok true) =
    PlayedSoFar clients files j' s' × (j.end < j'.end) × (j'.file ≡ j.file)
PlaysNextFrame clients files j j' s' (Ok false) =
    PlayedSoFar clients files j' s' × IsAtJournalEnd files j' × (j'.file ≡ j.file)
PlaysNextFrame clients files j j' s' (Err load.NoStore) = ⊥
PlaysNextFrame clients files j j' s' (Err (load.Damaged place)) = AreDamaged clients files place
PlaysNextFrame clients files j j' s' (Err load.DiskFault) = Unit {0}
PlaysNextFrame clients files j j' s' (Err load.Memory) = Unit {0}

-- whether the room of the journal is left
abbrev pub HasItsRoom : JournalValue → StateValue → Result (Unit {0}) LoadFault → Type 0
HasItsRoom j s (Ok u) = j.end + room_of (format_meant j.format) s.facts ≤ MAX_JOURNAL
HasItsRoom j s (Err load.NoStore) = ⊥
HasItsRoom j s (Err (load.Damaged place)) =
    (place.file ≡ j.file) × (place.at ≡ j.end - 1)
    × (MAX_JOURNAL < j.end + room_of (format_meant j.format) s.facts)
HasItsRoom j s (Err load.DiskFault) = ⊥
HasItsRoom j s (Err load.Memory) = Unit {0}

-- the whole journal was read and played, and its room is left
pub record HasReadJournal (clients : Meaning) (files : Option (Two File)) (j : JournalValue)
    (s : StateValue) : Type 0 where
  pub so_far : PlayedSoFar clients files j s
  pub at_end : IsAtJournalEnd files j
  pub roomy : j.end + room_of (format_meant j.format) s.facts ≤ MAX_JOURNAL

-- what reading the whole journal answers
abbrev pub ReadsWholeJournal : Meaning → Option (Two File) → JournalValue → StateValue
    → Result (Unit {0}) LoadFault → Type 0
ReadsWholeJournal clients files j s (Ok u) = HasReadJournal clients files j s
ReadsWholeJournal clients files j s (Err load.NoStore) = ⊥
ReadsWholeJournal clients files j s (Err (load.Damaged place)) = AreDamaged clients files place
ReadsWholeJournal clients files j s (Err load.DiskFault) = Unit {0}
ReadsWholeJournal clients files j s (Err load.Memory) = Unit {0}
