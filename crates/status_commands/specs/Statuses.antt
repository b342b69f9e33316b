-- What `status` does: it writes nothing to the files, and tells of the journal that they stand for,
-- as it stands.
use Rattle.std.specs.Prelude.{◌≡◌, ◌⊎◌, ℕ, List, Some, None}
use Rattle.outside.specs.Disk.{RelatesTold}
use Rattle.outside.specs.Files.{File, SyncsBoth, Two, read_files}
use Rattle.outside.specs.Outside.{Outside, DiskRun}
use Rattle.outside.specs.Streams.{Stream}
use Rattle.sync_rules.specs.declared.entries.Entry.{Entry}
use Rattle.sync_rules.specs.Clients.{Meaning}
use Rattle.entry_codec.specs.declared.naming.Format.{Format}
use Rattle.sync_words.specs.declared.outcome.Outcome.{Outcome}
use Rattle.store_commands.specs.Commit.{IsInFormat}
use Rattle.store_commands.specs.Show.{FilesReadSame, LeavesTold, PrintsText}
use Rattle.store_commands.specs.Stopping.{NeverReads, StoodFor, StopsEarly}
use Rattle.status_commands.specs.Texts.{journal_status}

-- the text tells of the journal in the format in which these files have it
pub record TellsStatus (files : Two (List ℕ)) (text : List ℕ) (j : List (List Entry)) : Type 0 where
  pub format : Format
  pub known : IsInFormat format files
  pub is : text ≡ journal_status format j

-- A text was printed, which tells of the journal that the files stand for. Nothing is pending in
-- them then, so that what was told of is there after a crash.
pub record HasPrintedStatus (clients : Meaning) (old new : Outside) (out out' : Stream)
    (came : Outcome) : Type 0 where
  pub text : List ℕ
  pub printed : PrintsText text out out' came
  pub synced : RelatesTold SyncsBoth old.files new.files
  pub told : (two : Two File) → old.files ≡ Some two
      → LeavesTold clients FilesReadSame
      (λ standing. StoodFor standing (TellsStatus (read_files two) text)) two old new

-- the journal is told of; or the command stopped before, and no test refuses it
pub record HasToldStatus (clients : Meaning) (old new : Outside) (out out' : Stream)
    (came : Outcome) : Type 0 where
  pub run : DiskRun old new
  pub did : StopsEarly clients (λ f. None) NeverReads old new out out' came
      ⊎ HasPrintedStatus clients old new out out' came
