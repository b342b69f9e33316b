-- What the paths of a node's acts promise: what a crash leaves at each moment, and what was sent.
use Rattle.std.specs.Prelude.{◌≡◌, ◌⊎◌, ℕ, ◌+◌, false, List, [], ◌∷◌, ◌++◌, Some, slice_get, slice_index_or}
use Rattle.outside.specs.Outside.{Moment}
use Rattle.outside.specs.Runs.{IsFront}
use Rattle.entry_codec.specs.Standing.{journal}
use Rattle.file_standing.specs.Standing.{stands}
use Rattle.record_grammar.specs.Spelling.{spelled}
use Rattle.sync_rules.specs.declared.entries.Entry.{Entry}
use Rattle.sync_rules.specs.declared.entries.Entry.TheVariants as entry
use Rattle.sync_rules.specs.declared.entries.Session.{Session}
use Rattle.sync_rules.specs.Clients.{Meaning}
use Rattle.sync_rules.specs.Facts.{Facts, after_all, facts}
use Rattle.sync_rules.specs.Legal.{IsSettlingBatch}
use Rattle.sync_rules.specs.Output.{sent}
use Rattle.sync_course.specs.declared.ends.LinkEnd.TheVariants as end
use Rattle.sync_course.specs.Acts.{Act, batches_in, events_of, sends_on}
use Rattle.sync_course.specs.Events.{has_failure}
use Rattle.sync_course.specs.Free.{Free, FreeStep, IsPlain, first_free}
use Rattle.sync_course.specs.Links.{Link}
use Rattle.sync_course.specs.Owing.{ActStep, Owing, paid}
use Rattle.sync_course.specs.Paths.{Path}
use Rattle.sync_course.specs.Suits.{TakesHeard, heard_in}

-- the acts of a node over a journal: they lead from where it begins, with nothing owed
abbrev pub FreeActs : Meaning → List (List Entry) → List Act → Owing Free → Type 0
FreeActs clients j acts to =
    Path (ActStep (λ (p : Free). p.facts) (facts j).begun (FreeStep clients (facts j).begun)) (paid (first_free (facts j))) acts to

-- the bytes heard on the link of a number
abbrev pub heard_at : Free → ℕ → List ℕ
heard_at p link = heard_in (slice_get p.links link)

-- ---- which batches there are

-- the sessions that begin by some batches, in order
abbrev pub begun_by : List (List Entry) → List Session
begun_by [] = []
begun_by ((entry.Session s ∷ rest) ∷ batches) = s ∷ begun_by batches
begun_by (_ ∷ batches) = begun_by batches

-- the session that begins is that of the next link, as planned: the k-th session is planned for the k-th link
pub record BeginsAsPlanned (first : ℕ) (plans : List Session) (f : Facts) (s : Session) : Type 0 where
  pub link : ℕ
  pub on : f.begun ≡ first + link
  pub planned : slice_get plans link ≡ Some s

-- what a run adds beside settling: the session of the next link; the next record heard on a link, taken; or an output of the
-- session of a link. The first link has this session
abbrev pub IsOfCourse : ℕ → List Session → (ℕ → List ℕ) → Facts → List Entry → Type 0
IsOfCourse first plans heard f (entry.Session s ∷ rest) = BeginsAsPlanned first plans f s
IsOfCourse first plans heard f (entry.Take s k ∷ rest) = TakesHeard first heard f s k rest
IsOfCourse first plans heard f (entry.Out s now what ∷ rest) = (link : ℕ) × (s ≡ first + link)
IsOfCourse first plans heard f _ = ⊥

abbrev pub SuitsPlanned : Meaning → ℕ → List Session → (ℕ → List ℕ) → Facts → List Entry → Type 0
SuitsPlanned clients first plans heard f batch = IsSettlingBatch clients f batch ⊎ IsOfCourse first plans heard f batch

abbrev pub AllSuitPlanned : Meaning → ℕ → List Session → (ℕ → List ℕ) → Facts → List (List Entry) → Type 0
AllSuitPlanned clients first plans heard f [] = Unit {0}
AllSuitPlanned clients first plans heard f (b ∷ bs) =
    SuitsPlanned clients first plans heard f b × AllSuitPlanned clients first plans heard (after_all f b) bs

-- a node adds plain entries too
abbrev pub SuitsNode : Meaning → ℕ → List Session → (ℕ → List ℕ) → Facts → List Entry → Type 0
SuitsNode clients first plans heard f batch = IsPlain batch ⊎ SuitsPlanned clients first plans heard f batch

abbrev pub AllSuitNode : Meaning → ℕ → List Session → (ℕ → List ℕ) → Facts → List (List Entry) → Type 0
AllSuitNode clients first plans heard f [] = Unit {0}
AllSuitNode clients first plans heard f (b ∷ bs) =
    SuitsNode clients first plans heard f b × AllSuitNode clients first plans heard (after_all f b) bs

-- ---- what is promised

-- A moment behind the beginning over a journal: the files stand for it with batches that suit the node, and on each link what was
-- sent is a front of what that journal has as output of the link's session.
pub record MomentStands (clients : Meaning) (j : List (List Entry)) (plans : List Session) (heard : ℕ → List ℕ) (m : Moment) : Type 0 where
  pub more : List (List Entry)
  pub stands_for : stands clients m.files ≡ journal (j ++ more)
  pub suits : AllSuitNode clients (facts j).begun plans heard (facts j) more
  pub has_sent : (link : ℕ) → IsFront (slice_index_or m.sent link []) (spelled (sent (j ++ more) ((facts j).begun + link)))

-- on each link on which no call failed all output of its session was sent
abbrev pub AllIsSent : List (List Entry) → List Act → Type 0
AllIsSent j acts =
    (link : ℕ) → has_failure link (events_of acts) ≡ false
    → sends_on link acts ≡ spelled (sent (j ++ batches_in acts) ((facts j).begun + link))

-- the link of this number stands Failed
pub record LinkFailed (links : List Link) (number : ℕ) : Type 0 where
  pub link : Link
  pub there : slice_get links number ≡ Some link
  pub failed : link.stands ≡ end.Failed
