-- A journal of format 1 that is written anew into the other file, in format 2, and then made the
-- journal.
use Rattle.std.specs.Prelude.{◌≡◌, ◌⊎◌, ℕ, ◌+◌, ◌-◌, ◌≤◌, List, Option, Some, Result, Ok, Err}
use Rattle.std.specs.List.{AllByRecursion}
use Rattle.outside.specs.declared.limits.TheConstants.{MAX_JOURNAL}
use Rattle.outside.specs.Files.{Two, File, NothingPending, file_of, read_files}
use Rattle.outside.specs.Frames.{HasFrames, format_in, generation_in, journal_file}
use Rattle.outside.specs.Links.{sent_of}
use Rattle.outside.specs.Disk.{RelatesTold}
use Rattle.outside.specs.Outside.{Moment, MomentsAre, Outside}
use Rattle.frame_journal.specs.Create.{IsCleared}
use Rattle.frame_journal.specs.Journal.{JournalValue}
use Rattle.sync_rules.specs.declared.entries.Entry.{Entry}
use Rattle.sync_rules.specs.Clients.{Meaning}
use Rattle.sync_rules.specs.Facts.{facts, nothing}
use Rattle.sync_rules.specs.Legal.{Legal}
use Rattle.entry_codec.specs.declared.naming.Format.TheVariants as kind
use Rattle.entry_codec.specs.Payloads.{journal_end, payloads}
use Rattle.entry_codec.specs.Spelling.{IsEntry}
use Rattle.entry_codec.specs.Standing.{journal, room_of}
use Rattle.file_standing.specs.Standing.{stands}
use Rattle.journal_migration.specs.declared.fault.MigrationFault.{MigrationFault}
use Rattle.journal_migration.specs.declared.fault.MigrationFault.TheVariants as fault

-- the number of the other file
abbrev pub other_number : ℕ → ℕ
other_number file = 1 - file

-- The files stand for a journal, which is in this file, in format 1 and with this generation.
-- Nothing is pending in either.
pub record HoldsFirst (clients : Meaning) (file generation : ℕ) (j : List (List Entry))
    (two : Two File) : Type 0 where
  pub first_settled : NothingPending two 0
  pub second_settled : NothingPending two 1
  pub found : journal_file (read_files two) ≡ Some file
  pub format_is : format_in (file_of two file).now ≡ 1
  pub generation_is : generation_in (file_of two file).now ≡ generation
  pub stands_for : stands clients (read_files two) ≡ journal j

-- The files stand for a journal, which is in the file of this one, in format 2: its frames are the
-- journal's batches up to the closed gate before the end, and there is room for what settling may
-- add. Nothing is pending in either file.
pub record HoldsSecond (clients : Meaning) (n : JournalValue) (j : List (List Entry))
    (two : Two File) : Type 0 where
  pub first_settled : NothingPending two 0
  pub second_settled : NothingPending two 1
  pub found : journal_file (read_files two) ≡ Some n.file
  pub format_is : format_in (file_of two n.file).now ≡ 2
  pub generation_is : generation_in (file_of two n.file).now ≡ n.generation
  pub header : List ℕ
  pub frames : HasFrames (file_of two n.file).now header (payloads kind.Short nothing j)
  pub end_is : n.end ≡ journal_end kind.Short j
  pub legal : Legal clients j
  pub within : AllByRecursion (AllByRecursion IsEntry) j
  pub bounded : n.end + room_of kind.Short (facts j) ≤ MAX_JOURNAL
  pub stands_for : stands clients (read_files two) ≡ journal j

-- a moment whose files stand for the journal, nothing more being sent
pub record StandsStill (clients : Meaning) (j : List (List Entry)) (sent : List (List ℕ))
    (m : Moment) : Type 0 where
  pub stands_for : stands clients m.files ≡ journal j
  pub nothing_sent : m.sent ≡ sent

-- at each moment the files stand for the journal, and at the end they are so
pub record KeepsJournal (clients : Meaning) (j : List (List Entry)) (P : Two File → Type 0)
    (old new : Outside) : Type 0 where
  pub moments : MomentsAre old new (StandsStill clients j (sent_of old.links.told))
  pub ends : (two : Two File) → new.files ≡ Some two → P two

-- what the files hold at the end, by the answer
abbrev pub FilesHoldMigrated : Meaning → (file generation : ℕ) → List (List Entry)
    → Result JournalValue MigrationFault → Two File → Type 0
FilesHoldMigrated clients file generation j (Ok n) two = HoldsSecond clients n j two
FilesHoldMigrated clients file generation j (Err fault.Memory) two =
    HoldsFirst clients file generation j two
FilesHoldMigrated clients file generation j (Err fault.DiskFault) two = Unit {0}

-- at each moment the files stand for the journal, and at the end they hold it in the format that
-- the answer says
abbrev pub MigratesJournal : Meaning → (file generation : ℕ) → List (List Entry)
    → (old new : Outside) → Result JournalValue MigrationFault → Type 0
MigratesJournal clients file generation j old new result =
    KeepsJournal clients j (FilesHoldMigrated clients file generation j result) old new

-- this file is as before
abbrev pub KeepsFile : (file : ℕ) → Two File → Two File → Type 0
KeepsFile file old new = file_of new file ≡ file_of old file

-- This file is only read. Where a call on the disk failed this is not said.
abbrev pub ReadsOnly : {A : Type 0} → (file : ℕ) → (old new : Option (Two File))
    → Result A MigrationFault → Type 0
ReadsOnly file old new (Ok a) = RelatesTold (KeepsFile file) old new
ReadsOnly file old new (Err fault.Memory) = RelatesTold (KeepsFile file) old new
ReadsOnly file old new (Err fault.DiskFault) = Unit {0}

-- both files are as before, or this one is one byte long, which is no open gate, with nothing
-- pending in it
abbrev pub IsAsBeforeOrCleared : (file : ℕ) → Two File → Two File → Type 0
IsAsBeforeOrCleared file old new = (new ≡ old) ⊎ IsCleared new file

-- Where no memory was found nothing is left of what was written of this file.
abbrev pub TakesBack : {A : Type 0} → (file : ℕ) → (old new : Option (Two File))
    → Result A MigrationFault → Type 0
TakesBack file old new (Ok a) = Unit {0}
TakesBack file old new (Err fault.Memory) = RelatesTold (IsAsBeforeOrCleared file) old new
TakesBack file old new (Err fault.DiskFault) = Unit {0}

-- a journal in the other file, in format 2 and with the next generation, that ends no later
pub record IsNextJournal (file generation end : ℕ) (n : JournalValue) : Type 0 where
  pub file_is : n.file ≡ other_number file
  pub format_is : n.format ≡ 2
  pub generation_is : n.generation ≡ generation + 1
  pub no_longer : n.end ≤ end
