-- Each moment of a run of sessions is covered, also where memory was wanting before it began.
use Rattle.std.proofs.Common.{◌≡◌, List, subst, inl, inr, Some, Result}
use Rattle.outside.specs.Files.{Two, File}
use Rattle.outside.specs.Outside.{Outside}
use Rattle.outside.specs.Streams.{Stream}
use Rattle.sync_rules.specs.Clients.{Meaning}
use Rattle.commands.specs.declared.command.Command.TheVariants as command
use Rattle.sync_words.specs.declared.link_words.LinkWords.{LinkWords}
use Rattle.sync_course.specs.Closing.{Closing}
use Rattle.sync_words.specs.declared.outcome.Outcome.{Outcome}
use Rattle.commands.specs.Reading.{Asked}
use Rattle.commands.specs.Reading.Asked.{Usage, Do}
use Rattle.sync_run.specs.declared.run.Limits.{Limits}
use Rattle.sync_run.specs.Causes.{IsCaused}
use Rattle.sync_run.specs.Courses.{HaveSpecs}
use Rattle.sync_run.specs.Headline.{Headline}
use Rattle.sync_run.specs.Leaving.{LeavesLinks}
use Rattle.sync_run.specs.Ran.{HasRun, RanTold}
use Rattle.sync_run.proofs.LeavingLaws.{headline_none}
use Rattle.sync_words.specs.Outcomes.{links_came_to}
use Rattle.sync_top.specs.Run.{AsksSync, WordsComeTo, Covered}

pub covers : (clients : Meaning) (words : Asked) (old new : Outside)
    (input input' out out' : Stream) (came : Outcome)
    → (AsksSync words → old.links.dialled ≡ 0)
    → WordsComeTo clients words old new input input' out out' came
    → Covered clients words old new
covers clients (Usage place) old new input input' out out' came unused comes = tt
covers clients (Do (command.Sync turns quiet links)) old new input input' out out' came unused
    (inl did) = did.0.headline
covers clients (Do (command.Sync turns quiet links)) old new input input' out out' came unused
    (inr none) = headline_none clients links old new (unused tt) none.1.run.same_links none.1.rests
covers clients (Do _) old new input input' out out' came unused comes = tt

-- ---- a run of sessions

-- what is said of a run over the links of a list is said of the words that have them
pub has_run : (clients : Meaning) (limits : Limits) (words given : List LinkWords)
    (old new : Outside) (result : Result Closing Outcome) (came : Outcome) → given ≡ words
    → came ≡ links_came_to result → Headline clients given old new
    → ((two : Two File) → old.files ≡ Some two → RanTold clients limits given two old new result)
    → HaveSpecs given new → IsCaused given old new result
    → LeavesLinks given old new result → HasRun clients limits words old new came
has_run clients limits words given old new result came same is headline told specs caused leaves =
    subst (λ (w : List LinkWords). HasRun clients limits w old new came) same
    (record {
      result = result;
      is = is;
      headline = headline;
      told = told;
      specs = specs;
      caused = caused;
      leaves = leaves;
    })
