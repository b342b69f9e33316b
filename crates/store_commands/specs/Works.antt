-- What a command does that adds to the journal of a store or writes it anew, once its tests hold:
-- what all such commands have in common, over what each says of its own work.
use Rattle.std.specs.Prelude.{◌≡◌, ◌⊎◌, ℕ, List, Option, Some, None}
use Rattle.std.specs.Io.KnownBytes.{Appends}
use Rattle.outside.specs.Faults.{CountRose}
use Rattle.outside.specs.Files.{Two, File, read_files}
use Rattle.outside.specs.Links.{sent_of}
use Rattle.outside.specs.Outside.{Outside, MomentsAre, IsNow, DiskRun}
use Rattle.outside.specs.Streams.{Stream, IsIdle, GetsFront}
use Rattle.sync_rules.specs.declared.entries.Entry.{Entry}
use Rattle.sync_rules.specs.declared.states.Refused.{Refused}
use Rattle.sync_rules.specs.Clients.{Meaning}
use Rattle.sync_rules.specs.Facts.{Facts, facts}
use Rattle.file_standing.specs.Standing.{stands}
use Rattle.sync_store.specs.Fitting.{FitsFiles}
use Rattle.sync_store.specs.Moments.{JournalMoment}
use Rattle.sync_store.specs.Store.{StoreValue}
use Rattle.sync_words.specs.declared.outcome.Outcome.{Outcome}
use Rattle.sync_words.specs.declared.outcome.Outcome.TheVariants as outcome
use Rattle.store_commands.specs.Commit.{IsMoved, OnceSettled, WasSpent}
use Rattle.store_commands.specs.Stopping.{NeverReads, StoodFor, StopsEarly}

-- What a command says of its work: how a journal goes on by some of it; and of a journal with all of
-- its settling, that there was no room, by what the files read as before and by the files now; that
-- all is done, by the files now and by what is so of its text; for which files no generation is left
-- for it; and how often it writes the journal anew beside a migration.
pub record Work : Type 1 where
  pub goes_on : (j whole : List (List Entry)) → Type 0
  pub full : Two (List ℕ) → Two File → (settled : List (List Entry)) → Type 0
  pub done : Two File → (List ℕ → Type 0) → (settled : List (List Entry)) → Type 0
  pub spent : Two (List ℕ) → Type 0
  pub anew : ℕ

-- all of a journal's work is done, a generation was left for it, and just so many were taken
abbrev pub IsDone : Meaning → Work → (j : List (List Entry)) → Two (List ℕ) → Two File
    → (List ℕ → Type 0) → Type 0
IsDone clients work j before two P =
    OnceSettled clients j (work.done two P) × (work.spent before → ⊥)
    × IsMoved work.anew before two

-- there was no room behind all of its settling; or no generation was left for a journal in format 2
abbrev pub IsWorkFull : Meaning → Work → (j : List (List Entry)) → Two (List ℕ) → Two File → Type 0
IsWorkFull clients work j before two =
    OnceSettled clients j (work.full before two) ⊎ WasSpent before two

-- by the outcome: what the files read as before, and the files now
abbrev pub WorkEnds : Meaning → Work → (j : List (List Entry)) → Two (List ℕ) → Two File
    → (out out' : Stream) → Outcome → Type 0
WorkEnds clients work j before two out out' outcome.WriteFault =
    IsDone clients work j before two (GetsFront out out')
WorkEnds clients work j before two out out' outcome.Full = IsWorkFull clients work j before two
WorkEnds clients work j before two out out' outcome.Memory = Unit {0}
WorkEnds clients work j before two out out' outcome.DiskFault = Unit {0}
WorkEnds clients work j before two out out' came =
    IsDone clients work j before two (Appends out.bytes out'.bytes)

-- the causes of an outcome, whatever the disk tells: a fault comes only where its count rose,
-- nothing is written but the text, and else it is what all of the work comes to
abbrev pub WorkBy : Outcome → (old new : Outside) (out out' : Stream) → Outcome → Type 0
WorkBy comes old new out out' outcome.WriteFault = CountRose out.faults out'.faults
WorkBy comes old new out out' outcome.DiskFault =
    CountRose old.disk_faults new.disk_faults × IsIdle out out'
WorkBy comes old new out out' outcome.Full = IsIdle out out'
WorkBy comes old new out out' outcome.Memory = IsIdle out out'
WorkBy comes old new out out' came = comes ≡ came

-- ---- from the files that were told

-- each moment is as a crash might have left the files before, or the journal goes on; and in the end
-- they are so
pub record WorkTold (clients : Meaning) (work : Work) (two : Two File) (old new : Outside)
    (out out' : Stream) (came : Outcome) (j : List (List Entry)) : Type 0 where
  pub moments : MomentsAre old new
      (λ m. IsNow two old.links m
      ⊎ JournalMoment clients (work.goes_on j) (sent_of old.links.told) m)
  pub ends : (two' : Two File) → new.files ≡ Some two'
      → WorkEnds clients work j (read_files two) two' out out' came

-- the tests hold, and the work was done as far as the outcome says, which for all of it is this; it
-- is that of the journal as it was loaded
pub record DoesWork (clients : Meaning) (test : Facts → Option Refused) (comes : Outcome)
    (work : Facts → Work) (old new : Outside) (out out' : Stream) (came : Outcome) : Type 0 where
  pub by : WorkBy comes old new out out' came
  pub told : (two : Two File) → old.files ≡ Some two
      → StoodFor (stands clients (read_files two)) (λ j. (test (facts j) ≡ None)
      × WorkTold clients (work (facts j)) two old new out out' came j)

-- a command does its work; or it stopped before, and nothing was changed
pub record HasWorked (clients : Meaning) (test : Facts → Option Refused) (work : Facts → Work)
    (old new : Outside) (out out' : Stream) (came : Outcome) : Type 0 where
  pub run : DiskRun old new
  pub did : StopsEarly clients test NeverReads old new out out' came
      ⊎ DoesWork clients test outcome.Done work old new out out' came

-- ---- from a loaded store

-- each moment stands for the journal that goes on, and in the end the files are so
pub record WorkLeads (clients : Meaning) (work : Work) (j : List (List Entry)) (two : Two File)
    (old new : Outside) (out out' : Stream) (came : Outcome) : Type 0 where
  pub moments : MomentsAre old new
      (JournalMoment clients (work.goes_on j) (sent_of old.links.told))
  pub ends : (two' : Two File) → new.files ≡ Some two'
      → WorkEnds clients work j (read_files two) two' out out' came

-- a store was migrated and settled, and the work was done as far as the outcome says
pub record RunsWork (clients : Meaning) (comes : Outcome) (work : Work) (s : StoreValue)
    (old new : Outside) (out out' : Stream) (came : Outcome) : Type 0 where
  pub run : DiskRun old new
  pub by : WorkBy comes old new out out' came
  pub told : (two : Two File) → old.files ≡ Some two → (j : List (List Entry))
      → FitsFiles clients s j two → WorkLeads clients work j two old new out out' came
