-- What serves a command: the files as they read stand for a journal over which its tests hold, and
-- there is room.
use Rattle.std.specs.Prelude.{◌≡◌, ℕ, ◌≤◌, true, List, [], ◌∷◌, ◌++◌, Option, None, is_some}
use Rattle.outside.specs.declared.limits.TheConstants.{MAX_JOURNAL}
use Rattle.outside.specs.Files.{Two, File}
use Rattle.outside.specs.Outside.{Outside}
use Rattle.outside.specs.Streams.{Stream}
use Rattle.sync_rules.specs.declared.entries.Entry.{Entry}
use Rattle.sync_rules.specs.Clients.{Meaning}
use Rattle.sync_rules.specs.Facts.{Facts, Id, facts, group_at}
use Rattle.sync_course.specs.Events.{Commit, batches_of}
use Rattle.sync_course.specs.Turns.{Place, RunStep}
use Rattle.sync_node.specs.Courses.{ReadsAs}
use Rattle.sync_words.specs.declared.link_words.LinkWords.{LinkWords}
use Rattle.store_commands.specs.Commit.{HoweverSettled, MayMigrate, needed_by}
use Rattle.store_commands.specs.Compact.{MayRenew, brief_len}
use Rattle.store_commands.specs.Plans.{EntryPlan, adds, post_plan}
use Rattle.store_commands.specs.Post.{IsBody, posted_message}
use Rattle.store_commands.specs.Shown.{Showing, shows}
use Rattle.sync_run.specs.declared.run.Limits.{Limits}
use Rattle.sync_run.specs.Courses.{RanSoFar, run_test, terms_of}

-- The files stand for a journal over which these tests hold, and which has this room; where they
-- are in format 1, a generation is left.
pub record MayDoWork (clients : Meaning) (tests : Facts → Type 0)
    (has_room : List (List Entry) → Type 0) (files : Option (Two File)) : Type 0 where
  pub before : List (List Entry)
  pub stood : ReadsAs clients files before
  pub tested : tests (facts before)
  pub room : has_room before
  pub next : MayMigrate files

-- the same where the command plans to add an entry
pub record MayAddPlanned (clients : Meaning) (plan : Facts → EntryPlan)
    (files : Option (Two File)) : Type 0 where
  pub before : List (List Entry)
  pub entry : Entry
  pub stood : ReadsAs clients files before
  pub planned : plan (facts before) ≡ adds entry
  pub room : HoweverSettled clients before (λ j. needed_by j (entry ∷ []) ≤ MAX_JOURNAL)
  pub next : MayMigrate files

-- the files stand for a journal that knows the group, and the message of the body that is read may
-- be added
pub record MayPost (clients : Meaning) (group : Id) (timestamp : ℕ) (files : Option (Two File))
    (input input' : Stream) : Type 0 where
  pub before : List (List Entry)
  pub stood : ReadsAs clients files before
  pub known : is_some (group_at (facts before).groups group) ≡ true
  pub may_add : (body : List ℕ) → IsBody input input' body → MayAddPlanned clients
      (λ f. post_plan clients f (posted_message group timestamp body)) files

-- the files stand for a journal for whose brief account there is room, and a generation is left for
-- it
pub record MayCompact (clients : Meaning) (files : Option (Two File)) : Type 0 where
  pub before : List (List Entry)
  pub stood : ReadsAs clients files before
  pub room : HoweverSettled clients before (λ j. brief_len j ≤ MAX_JOURNAL)
  pub next : MayRenew files

-- the files stand for a journal of which the command has a text to show
pub record MayShow (clients : Meaning) (shown : Facts → Showing)
    (files : Option (Two File)) : Type 0 where
  pub of : List (List Entry)
  pub text : List ℕ
  pub stood : ReadsAs clients files of
  pub is : shown (facts of) ≡ shows text

-- the files stand for a journal
pub record MayAudit (clients : Meaning) (files : Option (Two File)) : Type 0 where
  pub of : List (List Entry)
  pub stood : ReadsAs clients files of

-- the tests of the words hold, and there is room for each batch that comes next in a course over
-- what was heard
abbrev pub MaySync : Meaning → Limits → List LinkWords → (old new : Outside) → Type 0
MaySync clients limits words old new =
    MayDoWork clients (λ f. run_test f words ≡ None) (λ begin.
    (run : RanSoFar clients limits words begin old new) (batch : List Entry) (next : Place)
    → RunStep clients (terms_of limits begin) run.last (Commit batch) next
    → needed_by (begin ++ batches_of run.events) batch ≤ MAX_JOURNAL) old.files
