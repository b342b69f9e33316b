-- What migrating a store, settling it, adding a batch to it and settling again comes to.
use Rattle.std.specs.Prelude.{◌≡◌, ◌⊎◌, ℕ, zero, suc, ◌+◌, ◌-◌, ◌^◌, ◌<◌, ◌≤◌, false, List, [], ◌∷◌}
use Rattle.std.specs.Prelude.{◌++◌, Option, Some, Result, Ok, Err, OnOk}
use Rattle.outside.specs.declared.limits.TheConstants.{MAX_JOURNAL}
use Rattle.outside.specs.Faults.{CountRose}
use Rattle.outside.specs.Files.{Two, File, file_of, read_files, NothingPending}
use Rattle.outside.specs.Frames.{format_in, generation_in, journal_file}
use Rattle.outside.specs.Links.{sent_of}
use Rattle.outside.specs.Outside.{Outside, MomentsAre}
use Rattle.sync_rules.specs.declared.entries.Entry.{Entry}
use Rattle.sync_rules.specs.Clients.{Meaning}
use Rattle.sync_rules.specs.Facts.{Facts, facts, after_all, after_batches}
use Rattle.sync_rules.specs.Hearing.{SettlesJournal}
use Rattle.sync_rules.specs.Legal.{Allowed, AllSettling}
use Rattle.sync_rules.specs.Steps.{IsSettled}
use Rattle.entry_codec.specs.declared.naming.Format.{Format}
use Rattle.entry_codec.specs.declared.naming.Format.TheVariants as kind
use Rattle.entry_codec.specs.Naming.{format_of}
use Rattle.entry_codec.specs.Standing.{journal}
use Rattle.file_standing.specs.Standing.{stands}
use Rattle.sync_store.specs.Commits.{needed}
use Rattle.sync_store.specs.Migrations.{IsSpent}
use Rattle.sync_store.specs.Store.{StoreValue, written_in}
use Rattle.sync_store.specs.Ready.{IsReady}
use Rattle.sync_store.specs.Moments.{JournalMoment}
use Rattle.sync_store.specs.Rooms.{needed_in}
use Rattle.sync_store.specs.Runs.{AddsBatch, LeadsBy}
use Rattle.sync_store.specs.Settling.{AreFilled, ComesBy}
use Rattle.sync_words.specs.declared.outcome.Outcome.{Outcome}
use Rattle.sync_words.specs.declared.outcome.Outcome.TheVariants as outcome
use Rattle.store_commands.specs.declared.commit.Settling.{Settling}
use Rattle.store_commands.specs.declared.commit.Settling.TheVariants as settling

-- ---- journals

-- this is so of the journal with all of its settling, in batches of which each but the last is full
pub record OnceSettled (clients : Meaning) (j : List (List Entry))
    (P : List (List Entry) → Type 0) : Type 0 where
  pub first : List (List Entry)
  pub settles : AllSettling clients (facts j) first
  pub settled : IsSettled clients (after_batches (facts j) first)
  pub filled : AreFilled first
  pub has : P (j ++ first)

-- this is so of it however it is settled
abbrev pub HoweverSettled : Meaning → List (List Entry) → (List (List Entry) → Type 0) → Type 0
HoweverSettled clients j P =
    (first : List (List Entry)) → AllSettling clients (facts j) first
    → IsSettled clients (after_batches (facts j) first) → P (j ++ first)

-- the journal goes on by settling, the batch, and settling
pub record HasOneBatch (clients : Meaning) (j : List (List Entry)) (batch : List Entry)
    (whole : List (List Entry)) : Type 0 where
  pub before : List (List Entry)
  pub settles : SettlesJournal clients j before
  pub settles_again : SettlesJournal clients (before ++ batch ∷ []) whole

-- the journal goes on by settling and at most the one batch
abbrev pub GoesOnByBatch : Meaning → (j : List (List Entry)) → List Entry
    → (whole : List (List Entry)) → Type 0
GoesOnByBatch clients j batch whole =
    SettlesJournal clients j whole ⊎ HasOneBatch clients j batch whole

-- what stands behind the batch: nothing, or settling up to its end
abbrev pub SettlesBehind : Settling → Meaning → Facts → List (List Entry) → Type 0
SettlesBehind settling.Before clients f rest = rest ≡ []
SettlesBehind settling.BeforeAndAfter clients f rest =
    AllSettling clients f rest × IsSettled clients (after_batches f rest) × AreFilled rest

-- the journal's file of two files is in this format
pub record IsInFormat (format : Format) (files : Two (List ℕ)) : Type 0 where
  pub file : ℕ
  pub found : journal_file files ≡ Some file
  pub is : format_of (format_in (file_of files file)) ≡ Some format

-- the journal's file of two files is in format 1, and has the last generation
pub record HasLastGeneration (files : Two (List ℕ)) : Type 0 where
  pub whole : IsInFormat kind.Whole files
  pub last : generation_in (file_of files whole.file) ≡ 2 ^ 64 - 1

-- the generation of a journal in this format once it is in format 2: a migration takes the next one
abbrev pub short_generation : Format → ℕ → ℕ
short_generation kind.Whole generation = generation + 1
short_generation kind.Short generation = generation

-- the file that it is in then: a migration moves it to the other
abbrev pub short_file : Format → ℕ → ℕ
short_file kind.Whole file = 1 - file
short_file kind.Short file = file

-- the file that a journal is in once it was written anew so often, each time into the other file
abbrev pub moved_file : ℕ → ℕ → ℕ
moved_file zero file = file
moved_file (suc times) file = 1 - moved_file times file

-- The journal of files that read so before was migrated once, where it was in format 1, and was then
-- written anew so often: each time it went to the other file, and took just the next generation.
pub record IsMoved (times : ℕ) (before : Two (List ℕ)) (two : Two File) : Type 0 where
  pub format : Format
  pub known : IsInFormat format before
  pub now : IsInFormat kind.Short (read_files two)
  pub file_is : now.file ≡ moved_file times (short_file format known.file)
  pub generation_is : generation_in (file_of (read_files two) now.file)
      ≡ short_generation format (generation_in (file_of before known.file)) + times

-- where files are told, a generation is left for a journal in format 2, or that has it
abbrev pub MayMigrate : Option (Two File) → Type 0
MayMigrate files = (two : Two File) → files ≡ Some two → HasLastGeneration (read_files two) → ⊥

-- The length that a journal needs with a batch, in format 2, in which whatever is added is added.
abbrev pub needed_by : List (List Entry) → List Entry → ℕ
needed_by j batch = needed_in kind.Short j batch

-- the files stand, in format 2, for this journal, and nothing is pending in them, so that each
-- crash leaves this
pub record StandsSynced (clients : Meaning) (two : Two File) (j : List (List Entry)) : Type 0 where
  pub short : IsInFormat kind.Short (read_files two)
  pub stands_for : stands clients (read_files two) ≡ journal j
  pub first_settled : NothingPending two 0
  pub second_settled : NothingPending two 1

-- the files stand for a settled journal, the one batch, for which there was room when it was
-- committed, and what follows it
pub record IsAdded (clients : Meaning) (settling : Settling) (batch : List Entry) (two : Two File)
    (settled : List (List Entry)) : Type 0 where
  pub rest : List (List Entry)
  pub roomy : needed_by settled batch ≤ MAX_JOURNAL
  pub follows : SettlesBehind settling clients (after_all (facts settled) batch) rest
  pub stands : StandsSynced clients two (settled ++ batch ∷ rest)

-- the files stand for this journal, and there is no room for the batch
pub record IsFullForBatch (clients : Meaning) (batch : List Entry) (two : Two File)
    (j : List (List Entry)) : Type 0 where
  pub stands : StandsSynced clients two j
  pub over : MAX_JOURNAL < needed_by j batch

-- the files, which read so before, had no generation left for a journal in format 2, and read as
-- before
abbrev pub WasSpent : Two (List ℕ) → Two File → Type 0
WasSpent before two = HasLastGeneration before × (read_files two ≡ before)

-- the journal was settled and there is no room for the batch, or there was no generation left
abbrev pub IsFull : Meaning → List (List Entry) → List Entry → Two File → Two File → Type 0
IsFull clients j batch two two' =
    OnceSettled clients j (IsFullForBatch clients batch two') ⊎ WasSpent (read_files two) two'

-- ---- a store that is ready

-- a batch may follow a journal of these facts once that is settled
pub record MayFollow (clients : Meaning) (f : Facts) (batch : List Entry) : Type 0 where
  pub follows : (more : List (List Entry)) → AllSettling clients f more → IsSettled clients
      (after_batches f more) → Allowed clients (after_batches f more) batch

-- the causes, whatever the disk tells
abbrev pub ExtendsBy : (old new : Outside) → Result (Unit {0}) Outcome → Type 0
ExtendsBy old new (Ok _) = Unit {0}
ExtendsBy old new (Err outcome.Full) = Unit {0}
ExtendsBy old new (Err outcome.Memory) = Unit {0}
ExtendsBy old new (Err outcome.DiskFault) = CountRose old.disk_faults new.disk_faults
ExtendsBy old new (Err _) = ⊥

-- what settling leaves of the store: at Ok it is settled
abbrev pub SettledBy : Meaning → StoreValue → Result (Unit {0}) Outcome → Type 0
SettledBy clients s (Ok _) = (s.closed ≡ false) × IsSettled clients s.state.facts
SettledBy clients s (Err outcome.Memory) = Unit {0}
SettledBy clients s (Err outcome.DiskFault) = Unit {0}
SettledBy clients s (Err _) = ⊥

-- the generation and the file of a store's journal once it is in format 2
abbrev pub next_generation : StoreValue → ℕ
next_generation s = short_generation (written_in s) s.generation

abbrev pub next_file : StoreValue → ℕ
next_file s = short_file (written_in s) s.file

-- what a migration leaves of the store: at Ok its journal is in format 2
abbrev pub MigratedBy : StoreValue → StoreValue → Result (Unit {0}) Outcome → Type 0
MigratedBy s s' (Ok _) =
    (s'.closed ≡ false) × (written_in s' ≡ kind.Short) × (IsSpent s → ⊥)
    × (s'.generation ≡ next_generation s) × (s'.file ≡ next_file s)
MigratedBy s s' (Err outcome.Full) = IsSpent s × (s' ≡ s)
MigratedBy s s' (Err outcome.Memory) = Unit {0}
MigratedBy s s' (Err outcome.DiskFault) = Unit {0}
MigratedBy s s' (Err _) = ⊥

-- what both leave of it
abbrev pub SettledAnew : Meaning → StoreValue → StoreValue → Result (Unit {0}) Outcome → Type 0
SettledAnew clients s s' (Ok _) =
    (s'.closed ≡ false) × IsSettled clients s'.state.facts × (written_in s' ≡ kind.Short)
    × (IsSpent s → ⊥)
    × (s'.generation ≡ next_generation s) × (s'.file ≡ next_file s)
SettledAnew clients s s' (Err outcome.Full) = IsSpent s × (s' ≡ s)
SettledAnew clients s s' (Err outcome.Memory) = Unit {0}
SettledAnew clients s s' (Err outcome.DiskFault) = Unit {0}
SettledAnew clients s s' (Err _) = ⊥

-- but where a call on the disk failed the store is ready
abbrev pub StoreStaysReady : Meaning → StoreValue → Option (Two File) → Result (Unit {0}) Outcome
    → Type 0
StoreStaysReady clients s files (Err outcome.DiskFault) = Unit {0}
StoreStaysReady clients s files _ = IsReady clients s files

-- A store came by these settling batches to this one, in the file that it was in or in the other.
-- Its facts are those after them, and a journal in format 2 stays in it; at each moment the files
-- stand for the journal with a front of them, and in the end, unless the store is closed, the disk
-- fits it with the journal and all of them.
pub record ComesAnew (clients : Meaning) (s s' : StoreValue) (old new : Outside)
    (more : List (List Entry)) : Type 0 where
  pub settling : AllSettling clients s.state.facts more
  pub facts : s'.state.facts ≡ after_batches s.state.facts more
  pub limit : s'.limit ≡ s.limit
  pub short : written_in s ≡ kind.Short → written_in s' ≡ kind.Short
  pub leads : LeadsBy clients s s' old new more

-- a store was migrated as far as the answer says: at each moment the files stand for the same
-- journal
pub record MigratesAs (clients : Meaning) (s s' : StoreValue) (old new : Outside)
    (result : Result (Unit {0}) Outcome) : Type 0 where
  pub comes : ComesAnew clients s s' old new []
  pub answer : MigratedBy s s' result

-- a store was migrated, and came by settling batches as far as the answer says
pub record SettlesAnew (clients : Meaning) (s s' : StoreValue) (old new : Outside)
    (result : Result (Unit {0}) Outcome) : Type 0 where
  pub more : List (List Entry)
  pub comes : ComesAnew clients s s' old new more
  pub filled : AreFilled more
  pub answer : SettledAnew clients s s' result

-- a store came by settling batches as far as the answer says
pub record SettlesAs (clients : Meaning) (s s' : StoreValue) (old new : Outside)
    (result : Result (Unit {0}) Outcome) : Type 0 where
  pub more : List (List Entry)
  pub comes : ComesBy clients s s' old new more
  pub filled : AreFilled more
  pub answer : SettledBy clients s' result

-- the batch, and behind it what is to follow
pub record IsBatchAndSettling (clients : Meaning) (settling : Settling) (f : Facts)
    (batch : List Entry) (more : List (List Entry)) : Type 0 where
  pub rest : List (List Entry)
  pub is : more ≡ batch ∷ rest
  pub follows : SettlesBehind settling clients (after_all f batch) rest

-- the sum of the room, and which batches were added, by the answer
abbrev pub AddedSo : Meaning → Settling → StoreValue → StoreValue → List Entry → List (List Entry)
    → Result (Unit {0}) Outcome → Type 0
AddedSo clients settling s s' batch more (Ok _) =
    (s'.closed ≡ false) × (needed s batch ≤ s.limit)
    × IsBatchAndSettling clients settling s.state.facts batch more
AddedSo clients settling s s' batch more (Err outcome.Full) =
    (s'.closed ≡ false) × (s.limit < needed s batch) × (more ≡ [])
AddedSo clients settling s s' batch more (Err outcome.Memory) = Unit {0}
AddedSo clients settling s s' batch more (Err outcome.DiskFault) = Unit {0}
AddedSo clients settling s s' batch more (Err _) = ⊥

-- a batch was added to a settled store, with what is to follow it, as far as the answer says
pub record AddsAs (clients : Meaning) (settling : Settling) (s s' : StoreValue) (batch : List Entry)
    (old new : Outside) (result : Result (Unit {0}) Outcome) : Type 0 where
  pub more : List (List Entry)
  pub adds : AddsBatch clients s.state.facts batch more
  pub file : s'.file ≡ s.file
  pub format : s'.format ≡ s.format
  pub generation : s'.generation ≡ s.generation
  pub limit : s'.limit ≡ s.limit
  pub leads : LeadsBy clients s s' old new more
  pub answer : AddedSo clients settling s s' batch more result

-- ---- settling, the batch, and settling again

-- by the answer
abbrev pub ExtendsEnds : Meaning → Settling → List (List Entry) → List Entry
    → Result (Unit {0}) Outcome → Two File → Two File → Type 0
ExtendsEnds clients settling j batch (Ok _) two two' =
    OnceSettled clients j (IsAdded clients settling batch two')
ExtendsEnds clients settling j batch (Err outcome.Full) two two' = IsFull clients j batch two two'
ExtendsEnds clients settling j batch (Err _) two two' = Unit {0}

-- Each moment stands for the journal with settling and at most the batch, and at Ok and Full the
-- files are so, which were `two` before. At Ok the journal was moved by a migration alone, and where
-- the files had no generation left it is not Ok.
pub record ExtendsTold (clients : Meaning) (settling : Settling) (j : List (List Entry))
    (batch : List Entry) (two : Two File) (old new : Outside)
    (result : Result (Unit {0}) Outcome) : Type 0 where
  pub moments : MomentsAre old new
      (JournalMoment clients (GoesOnByBatch clients j batch) (sent_of old.links.told))
  pub ends : (two' : Two File) → new.files ≡ Some two'
      → ExtendsEnds clients settling j batch result two two'
  pub spent : HasLastGeneration (read_files two) → OnOk result ⊥
  pub moved : OnOk result ((two' : Two File) → new.files ≡ Some two'
      → IsMoved 0 (read_files two) two')
