-- All that is said of a run of sessions over links, by the outcome of its command.
use Rattle.std.specs.Prelude.{◌≡◌, List, Some, Result, IfOk, IsErrOf}
use Rattle.outside.specs.Files.{Two, File, read_files}
use Rattle.outside.specs.Outside.{Outside}
use Rattle.sync_rules.specs.Clients.{Meaning}
use Rattle.file_standing.specs.Standing.{stands}
use Rattle.store_commands.specs.Show.{FilesReadSame, LeavesFilesSo}
use Rattle.sync_words.specs.Outcomes.{links_came_to}
use Rattle.sync_words.specs.declared.link_words.LinkWords.{LinkWords}
use Rattle.sync_course.specs.Closing.{Closing}
use Rattle.sync_words.specs.declared.outcome.Outcome.{Outcome}
use Rattle.sync_words.specs.declared.outcome.Outcome.TheVariants as outcome
use Rattle.sync_run.specs.declared.run.Limits.{Limits}
use Rattle.sync_run.specs.Causes.{IsCaused}
use Rattle.sync_run.specs.Courses.{RunComesTo, HaveSpecs}
use Rattle.sync_run.specs.Headline.{Headline, LeavesFilesAtRest, AllSentWhenFull, SentWhole}
use Rattle.sync_run.specs.Leaving.{LeavesLinks, MayNotBegin}

-- what is so where the files are told
pub record RanTold (clients : Meaning) (limits : Limits) (words : List LinkWords) (two : Two File)
    (old new : Outside) (result : Result Closing Outcome) : Type 0 where
  pub rests : LeavesFilesAtRest new.files result
  pub sent : IfOk result (SentWhole clients two new)
  pub sent_full : IsErrOf result outcome.Full → AllSentWhenFull clients two old new
  pub comes : RunComesTo clients limits words (stands clients (read_files two)) old new result
  -- Whatever it answers, where no session may begin no link was made, nothing was sent or heard,
  -- and the clock was not read; each moment is as a crash might have left the files before, and
  -- they read as before.
  pub unbegun : MayNotBegin words (stands clients (read_files two)) → (new.links ≡ old.links)
      × LeavesFilesSo (FilesReadSame two) two old new

-- a run of sessions over the links of these words came to this outcome
pub record HasRun (clients : Meaning) (limits : Limits) (words : List LinkWords) (old new : Outside)
    (came : Outcome) : Type 0 where
  pub result : Result Closing Outcome
  pub is : came ≡ links_came_to result
  pub headline : Headline clients words old new
  pub told : (two : Two File) → old.files ≡ Some two
      → RanTold clients limits words two old new result
  pub specs : HaveSpecs words new
  pub caused : IsCaused words old new result
  pub leaves : LeavesLinks words old new result
