-- A journal that is settled, and nothing else: how a node begins, and what it does before each
-- request that uses its store.
use Rattle.std.specs.Prelude.{◌≡◌, [], Some, None}
use Rattle.outside.specs.Files.{File, Two}
use Rattle.outside.specs.Outside.{DiskRun, Outside}
use Rattle.outside.specs.Streams.{Stream}
use Rattle.sync_rules.specs.Clients.{Meaning}
use Rattle.sync_rules.specs.Facts.{Journal}
use Rattle.sync_rules.specs.Hearing.{SettlesJournal}
use Rattle.sync_words.specs.declared.outcome.Outcome.{Outcome}
use Rattle.sync_words.specs.declared.outcome.Outcome.TheVariants as outcome
use Rattle.store_commands.specs.Commit.{HasLastGeneration, StandsSynced}
use Rattle.store_commands.specs.Works.{DoesWork, HasWorked, Work}

-- the work of settling a journal, in format 2; nothing is printed
abbrev pub settling_alone : Meaning → Work
settling_alone clients = record {
  goes_on = SettlesJournal clients;
  full = λ before two settled. ⊥;
  done = λ two P settled. StandsSynced clients two settled × P [];
  spent = HasLastGeneration;
  anew = 0;
}

-- a store was loaded, and its journal settled as far as the outcome says
abbrev pub HasBegun : Meaning → (old new : Outside) → Stream → Outcome → Type 0
HasBegun clients old new out came =
    HasWorked clients (λ f. None) (λ f. settling_alone clients) old new out out came

-- nothing was written yet
abbrev pub blank : Stream
blank = record { bytes = Some []; faults = 0 }

-- the journal of a loaded store was settled as far as the outcome says
pub record HasSettled (clients : Meaning) (old new : Outside) (came : Outcome) : Type 0 where
  pub run : DiskRun old new
  pub did : DoesWork clients (λ f. None) outcome.Done (λ f. settling_alone clients) old new blank
      blank came

-- one journal stands in the files, and nothing is pending in them, so that each crash leaves this
pub record StandsForOne (clients : Meaning) (two : Two File) : Type 0 where
  pub of : Journal
  pub synced : StandsSynced clients two of

-- where files are told
abbrev pub StandsNow : Meaning → Outside → Type 0
StandsNow clients o = (two : Two File) → o.files ≡ Some two → StandsForOne clients two
