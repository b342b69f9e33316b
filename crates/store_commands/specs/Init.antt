-- What `init` does: it begins a store where there is none.
use Rattle.std.specs.Prelude.{◌≡◌, true, false, Some}
use Rattle.std.specs.Io.KnownBytes.{Appends}
use Rattle.outside.specs.Faults.{CountRose}
use Rattle.outside.specs.Files.{Two, File}
use Rattle.outside.specs.Outside.{Outside, MomentsAre, DiskRun}
use Rattle.sync_words.specs.EntryTexts.{ready_text}
use Rattle.sync_store.specs.Begin.{BeginsJournal, InitMoment, has_open}
use Rattle.sync_words.specs.declared.outcome.Outcome.{Outcome}
use Rattle.sync_words.specs.declared.outcome.Outcome.TheVariants as outcome
use Rattle.outside.specs.Streams.{Stream, IsIdle, GetsFront}
use Rattle.store_commands.specs.Show.{FilesReadSame}

-- the line is printed
abbrev pub PrintsReady : Stream → Stream → Outcome → Type 0
PrintsReady out out' outcome.Done = Appends out.bytes out'.bytes ready_text
PrintsReady out out' outcome.WriteFault =
    CountRose out.faults out'.faults × GetsFront out out' ready_text
PrintsReady out out' _ = ⊥

-- the causes of an outcome, whatever the disk tells: a fault comes only where its count rose, and
-- nothing is written but the line
abbrev pub BeginsBy : (old new : Outside) (out out' : Stream) → Outcome → Type 0
BeginsBy old new out out' outcome.Done = Appends out.bytes out'.bytes ready_text
BeginsBy old new out out' outcome.WriteFault =
    CountRose out.faults out'.faults × GetsFront out out' ready_text
BeginsBy old new out out' outcome.DiskFault =
    CountRose old.disk_faults new.disk_faults × IsIdle out out'
BeginsBy old new out out' outcome.Exists = IsIdle out out'
BeginsBy old new out out' _ = ⊥

-- The outcome by the files: a store exists exactly where a file has an open header, and is left as
-- it reads. At Done every crash leaves the empty journal.
abbrev pub BeginsEnds : Two File → Two File → Outcome → Type 0
BeginsEnds two two' outcome.Done = (has_open two ≡ false) × BeginsJournal two two'
BeginsEnds two two' outcome.WriteFault = (has_open two ≡ false) × BeginsJournal two two'
BeginsEnds two two' outcome.Exists = (has_open two ≡ true) × FilesReadSame two two'
BeginsEnds two two' _ = Unit {0}

-- What is so where the files are told: each moment is as a crash might have left them before, or,
-- where no header was open, they stand for no store or for the empty journal.
pub record BeginsTold (two : Two File) (old new : Outside) (came : Outcome) : Type 0 where
  pub moments : MomentsAre old new (InitMoment two old.links)
  pub ends : (two' : Two File) → new.files ≡ Some two' → BeginsEnds two two' came

-- a store is begun
pub record HasBegun (old new : Outside) (out out' : Stream) (came : Outcome) : Type 0 where
  pub run : DiskRun old new
  pub by : BeginsBy old new out out' came
  pub told : (two : Two File) → old.files ≡ Some two → BeginsTold two old new came
