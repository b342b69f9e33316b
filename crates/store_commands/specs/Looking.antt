-- What a command that only looks does: it writes nothing to the files, and shows a text of the
-- journal that they stand for.
use Rattle.std.specs.Prelude.{◌≡◌, ◌⊎◌, ℕ, List, Option, Some, None}
use Rattle.outside.specs.Disk.{RelatesTold}
use Rattle.outside.specs.Files.{File, SyncsBoth, Two}
use Rattle.outside.specs.Outside.{Outside, DiskRun}
use Rattle.outside.specs.Streams.{Stream}
use Rattle.sync_rules.specs.declared.states.Refused.{Refused}
use Rattle.sync_rules.specs.Clients.{Meaning}
use Rattle.sync_rules.specs.Facts.{Facts, facts}
use Rattle.sync_words.specs.declared.outcome.Outcome.{Outcome}
use Rattle.store_commands.specs.Show.{FilesReadSame, LeavesTold, PrintsText}
use Rattle.store_commands.specs.Shown.{Showing, denies, shows}
use Rattle.store_commands.specs.Stopping.{NeverReads, StoodFor, StopsEarly}

-- why nothing is shown, if it is not
abbrev pub denial : Showing → Option Refused
denial (denies why) = Some why
denial (shows text) = None

-- A text was printed, which is what is shown of the journal that the files stand for. Nothing is
-- pending in them then, so that what was shown is there after a crash.
pub record HasShown (clients : Meaning) (shown : Facts → Showing) (old new : Outside)
    (out out' : Stream) (came : Outcome) : Type 0 where
  pub text : List ℕ
  pub printed : PrintsText text out out' came
  pub synced : RelatesTold SyncsBoth old.files new.files
  pub told : (two : Two File) → old.files ≡ Some two
      → LeavesTold clients FilesReadSame
      (λ standing. StoodFor standing (λ j. shown (facts j) ≡ shows text)) two old new

-- a command that only looks shows its text; or it stopped before
pub record HasLooked (clients : Meaning) (shown : Facts → Showing) (old new : Outside)
    (out out' : Stream) (came : Outcome) : Type 0 where
  pub run : DiskRun old new
  pub did : StopsEarly clients (λ f. denial (shown f)) NeverReads old new out out' came
      ⊎ HasShown clients shown old new out out' came
