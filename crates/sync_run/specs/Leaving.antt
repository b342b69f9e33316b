-- What a run leaves that ends before its first session.
use Rattle.std.specs.Prelude.{◌≡◌, ◌≤◌, true, List, length, is_some, Result, Err}
use Rattle.outside.specs.declared.limits.TheConstants.{LINKS}
use Rattle.outside.specs.Links.{Links}
use Rattle.outside.specs.Outside.{Outside}
use Rattle.outside.specs.Runs.{IsFront}
use Rattle.sync_rules.specs.Facts.{Journal, facts}
use Rattle.entry_codec.specs.Standing.{Standing, journal}
use Rattle.sync_words.specs.declared.link_words.LinkWords.{LinkWords}
use Rattle.sync_course.specs.Closing.{Closing}
use Rattle.sync_words.specs.declared.outcome.Outcome.{Outcome}
use Rattle.sync_words.specs.declared.outcome.Outcome.TheVariants as outcome
use Rattle.sync_run.specs.declared.dialling.Dialled.{Dialled}
use Rattle.sync_run.specs.Causes.{IsCaused}
use Rattle.sync_run.specs.Courses.{HaveSpecs, run_test}
use Rattle.sync_run.specs.Dialling.{MakesLinks}

-- Links were made for the first of these words, in order; on none of them anything was sent or
-- heard, and the clock was not read.
pub record MakesFront (words : List LinkWords) (old new : Links) : Type 0 where
  pub made : List LinkWords
  pub front : IsFront made words
  pub makes : MakesLinks made old new

-- A run that is refused, or finds no journal, leaves the links as they were: none was made. One of
-- which a dial or a nonce failed sent nothing and heard nothing.
abbrev pub LeavesLinks : List LinkWords → (old new : Outside) → Result Closing Outcome → Type 0
LeavesLinks words old new (Err outcome.NoStore) = new.links ≡ old.links
LeavesLinks words old new (Err (outcome.Damaged place)) = new.links ≡ old.links
LeavesLinks words old new (Err (outcome.Refused why)) = new.links ≡ old.links
LeavesLinks words old new (Err (outcome.LinkFailed link)) = MakesFront words old.links new.links
LeavesLinks words old new result = Unit {0}

-- no session of these words may begin over files that stand so: for no journal, or for one for
-- which a test of the words fails
abbrev pub MayNotBegin : List LinkWords → Standing → Type 0
MayNotBegin words standing =
    (begin : Journal) → standing ≡ journal begin → is_some (run_test (facts begin) words) ≡ true

-- ---- the links that were dialled

-- links that were made may be hung up
pub record MayHangUp (links : List Dialled) (o : Outside) : Type 0 where
  pub few : length links ≤ LINKS
  pub made : length links ≤ o.links.dialled

-- what the links came to, whether files are told or not
pub record LinksCameTo (words : List LinkWords) (old new : Outside)
    (result : Result Closing Outcome) : Type 0 where
  pub specs : HaveSpecs words new
  pub caused : IsCaused words old new result
  pub leaves : LeavesLinks words old new result
