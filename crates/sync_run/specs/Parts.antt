-- What the parts of a run come to, as parts of its course.
use Rattle.std.specs.Prelude.{◌≡◌, ◌⊎◌, ℕ, ◌<◌, Bool, false, List, [], ◌++◌, length, is_some}
use Rattle.std.specs.Prelude.{map, OnOk, Option, None, Some, Result, Ok, Err}
use Rattle.outside.specs.declared.limits.TheConstants.{MAX_JOURNAL}
use Rattle.outside.specs.Files.{Two, File}
use Rattle.outside.specs.Outside.{Outside}
use Rattle.outside.specs.Runs.{LinksGrow, TellsAll}
use Rattle.sync_rules.specs.declared.entries.Entry.{Entry}
use Rattle.sync_rules.specs.declared.entries.Session.{Session}
use Rattle.sync_rules.specs.Clients.{Meaning}
use Rattle.sync_rules.specs.Facts.{Facts, Journal, facts}
use Rattle.sync_store.specs.Store.{StoreValue}
use Rattle.sync_course.specs.Acts.{Act, AreQuiet, AtFront, Does, batches_in, events_of}
use Rattle.sync_course.specs.Closing.{Closing, closing}
use Rattle.sync_course.specs.Events.{Commit, TellsEvents}
use Rattle.sync_course.specs.Owing.{Owing, OwesNothing, paid}
use Rattle.sync_course.specs.Paths.{Path}
use Rattle.sync_course.specs.Turns.{Attaches, Between, Ended, Place, Terms, first_place, is_over}
use Rattle.sync_node.specs.declared.link.Link.{Link}
use Rattle.sync_node.specs.Courses.{AllRead, FitsWith, ReadsAs, place_at}
use Rattle.sync_node.specs.Did.{HasSentBy, SinceThen}
use Rattle.sync_node.specs.Calls.{CallGoes, CallStops}
use Rattle.sync_node.specs.Node.{AnswersAndCloses, MayRun, NodeValue}
use Rattle.sync_node.specs.OnRuns.{ByFault, RunActs, RunStopped, RunWent}
use Rattle.sync_node.specs.declared.fault.NodeFault.{NodeFault}
use Rattle.sync_course.specs.Links as course_links
use Rattle.sync_node.specs.Output.{sent_on}
use Rattle.store_commands.specs.Commit.{MayMigrate, needed_by}
use Rattle.sync_words.specs.declared.link_words.LinkWords.{LinkWords}
use Rattle.sync_words.specs.declared.outcome.Outcome.{Outcome}
use Rattle.sync_words.specs.declared.outcome.Outcome.TheVariants as outcome
use Rattle.sync_run.specs.declared.dialling.Dialled.{Dialled}
use Rattle.sync_run.specs.declared.run.Limits.{Limits}
use Rattle.sync_run.specs.Courses.{HearsRun, ReadsShort, RunWasSpent, terms_at, terms_of}
use Rattle.sync_run.specs.Plans.{ArePlanned, sessions_from}

-- links on which nothing was heard
abbrev pub silent : ℕ → List ℕ
silent link = []

-- before the sessions of links that were dialled
abbrev pub before_links : List Dialled → Facts → Place
before_links dialled f = first_place (sessions_from f.begun dialled) f

-- before the first turn
abbrev pub before_turns : List Link → Facts → Place
before_turns links f = place_at Between links silent false 0 0 f

-- a run stopped at a place, whatever its links are there, by what the node answered
abbrev pub StopsFrom : Meaning → Terms → Place → StoreValue → StoreValue → Outside → Outside
    → NodeFault
    → Type 0
StopsFrom clients terms p s s' o o' x =
    ByFault (λ e. (links : List course_links.Link) × RunStopped clients terms p links s s' o o' e) x

-- where files are told, a run on these links stopped so
pub record StopsRun (clients : Meaning) (limits : Limits) (dialled : List Dialled)
    (n n' : NodeValue) (o o' : Outside) (x : NodeFault) : Type 0 where
  pub stops : (two : Two File) → o.files ≡ Some two
      → StopsFrom clients (terms_at limits n.first) (before_links dialled n.store.state.facts)
      n.store n'.store o o' x

-- Where files are told, the sessions of these links began, up to those that are left. Nothing was
-- heard on the node's links.
pub record SessionsBegin (clients : Meaning) (dialled : List Dialled) (left : List Session)
    (n n' : NodeValue) (o o' : Outside) : Type 0 where
  pub same_told : is_some o'.files ≡ is_some o.files
  pub has_read : AllRead silent n'.links
  pub went : (two : Two File) → o.files ≡ Some two → (limits : Limits)
      → RunWent clients (terms_at limits n.first) (before_links dialled n.store.state.facts)
      (place_at (Attaches left) n'.links silent false 0 0 n'.store.state.facts) n.store n'.store
      o o'

-- from a place a run came to its end, over or not
pub record EndsFrom (clients : Meaning) (limits : Limits) (from : Place) (n n' : NodeValue)
    (o o' : Outside) (over : Bool) : Type 0 where
  pub heard : ℕ → List ℕ
  pub moved : Bool
  pub still : ℕ
  pub made : ℕ
  pub went : RunWent clients (terms_at limits n.first) from
      (place_at Ended n'.links heard moved still made n'.store.state.facts) n.store n'.store o o'
  pub is_so : over ≡ is_over limits.quiet
      (place_at Ended n'.links heard moved still made n'.store.state.facts)

-- where files are told, the sessions of these links began and the turns were made
pub record RunsSessions (clients : Meaning) (limits : Limits) (dialled : List Dialled)
    (n n' : NodeValue) (o o' : Outside) (over : Bool) : Type 0 where
  pub ends : (two : Two File) → o.files ≡ Some two
      → EndsFrom clients limits (before_links dialled n.store.state.facts) n n' o o' over

-- ---- the node

-- what a part of a run keeps, and how the node stands by the answer: a fault closes it, and nothing
-- else does; while it is open it may go on, with so many links
pub record StandsBy {T : Type 0} (clients : Meaning) (count : ℕ) (n n' : NodeValue) (o o' : Outside)
    (result : Result T NodeFault) : Type 0 where
  pub goes : CallGoes n n' o o'
  pub answer : AnswersAndCloses result n'
  pub may : MayRun clients n' o'
  pub stops : CallStops clients n' o o' result
  pub number : OnOk result (length n'.links ≡ count)

-- the run was over or not, and the links of the node stand so
abbrev pub closed_by : Bool → List Link → Closing
closed_by over links = record { over = over; ends = map (λ (l : Link). l.end) links }

-- ---- the run on links that were dialled

-- What calls did of a run over a journal, as acts: these were done, and lead from one place to
-- another; from there some batches were to be committed next. What went out and what the files read
-- as is by the acts, and each moment that came with the calls is at a front of them all.
pub record RunDid (clients : Meaning) (terms : Terms) (from : Place) (j : Journal)
    (o o' : Outside) : Type 0 where
  pub acts : List Act
  pub to : Owing Place
  pub path : Path (RunActs clients terms) (paid from) acts to
  pub next : List Act
  pub quiet : AreQuiet next
  pub beyond : Owing Place
  pub goes_on : Path (RunActs clients terms) to next beyond
  pub sent : HasSentBy acts o o'
  pub reads : ReadsAs clients o'.files (j ++ batches_in acts)
  pub moments : TellsAll o
      → SinceThen o o' (AtFront clients (acts ++ next) j (sent_on o.links))

-- there the run ended: all that was owed was sent, and its links closed so
pub record EndsAt (limits : Limits) (to : Owing Place) (ends : Closing) : Type 0 where
  pub at_end : to.at.stage ≡ Ended
  pub all_sent : OwesNothing to
  pub closes : ends ≡ closing limits.quiet to.at

-- there nothing was owed, and the next step commits a batch with which this journal passes the
-- greatest length
pub record FillsAt (clients : Meaning) (terms : Terms) (to : Owing Place)
    (j : Journal) : Type 0 where
  pub all_sent : OwesNothing to
  pub batch : List Entry
  pub next : Owing Place
  pub steps : RunActs clients terms to (Does (Commit batch)) next
  pub over : MAX_JOURNAL < needed_by j batch

-- Where a run stood at its answer, over this journal by then: what is so where it ended, what may
-- be so beside where there was no room, and what is so where a dial failed. Short is so where it
-- ended, where there was no room for a batch, and, memory wanting, where a session had begun.
abbrev pub AnswersAt : Meaning → Limits → Terms → Owing Place → Journal
    → (Short Whole Spent Undialled : Type 0) → Result Closing Outcome → Type 0
AnswersAt clients limits terms to j Short Whole Spent Undialled (Ok ends) =
    EndsAt limits to ends × Whole × Short
AnswersAt clients limits terms to j Short Whole Spent Undialled (Err outcome.Full) =
    (FillsAt clients terms to j × Short) ⊎ Spent
AnswersAt clients limits terms to j Short Whole Spent Undialled (Err (outcome.LinkFailed link)) =
    Undialled
AnswersAt clients limits terms to j Short Whole Spent Undialled (Err outcome.Memory) =
    terms.first < to.at.facts.begun → Short
AnswersAt clients limits terms to j Short Whole Spent Undialled (Err outcome.DiskFault) = Unit {0}
AnswersAt clients limits terms to j Short Whole Spent Undialled (Err _) = ⊥

pub record RanOver (clients : Meaning) (limits : Limits) (terms : Terms) (from : Place)
    (j : Journal)
    (Whole Spent : Type 0) (o o' : Outside) (result : Result Closing Outcome) : Type 0 where
  pub did : RunDid clients terms from j o o'
  pub told : TellsEvents (events_of did.acts) o o'
  pub answer : AnswersAt clients limits terms did.to (j ++ batches_in did.acts)
      (ReadsShort o'.files) Whole Spent ⊥ result

-- sessions ran over a settled store
abbrev pub RanSettled : Meaning → Limits → List Dialled → StoreValue → Outside → Outside
    → Result Closing Outcome → Type 0
RanSettled clients limits links s o o' result =
    (j : Journal) → FitsWith clients s o.files j
    → RanOver clients limits (terms_at limits s.state.facts.begun)
    (before_links links s.state.facts) j
    (Unit {0}) ⊥ o o' result

-- the journal was migrated and settled, and sessions ran over it
abbrev pub RanDialled : Meaning → Limits → List Dialled → StoreValue → Outside → Outside
    → Result Closing Outcome → Type 0
RanDialled clients limits links s o o' result =
    (j : Journal) → FitsWith clients s o.files j
    → RanOver clients limits (terms_of limits j)
    (first_place (sessions_from (facts j).begun links) (facts j)) j (MayMigrate o.files)
    (RunWasSpent [] o o') o o' result

-- ---- with the dials before it

-- the link that could not be dialled, where that ended the command
abbrev pub undialled_link : Result Closing Outcome → Option ℕ
undialled_link (Ok ends) = None
undialled_link (Err (outcome.LinkFailed link)) = Some link
undialled_link (Err _) = None

-- Links were dialled for these words, and sessions of all words ran on them; or a dial failed, and
-- nothing more was done.
pub record RanOnLinks (clients : Meaning) (limits : Limits) (words : List LinkWords) (j : Journal)
    (o o' : Outside) (result : Result Closing Outcome) : Type 0 where
  pub sessions : List Session
  pub planned : ArePlanned (facts j).begun words sessions
  pub all_planned : length sessions ≡ length words
  pub did : RunDid clients (terms_of limits j) (first_place sessions (facts j)) j o o'
  pub made : (o'.links.dialled ≡ length words) ⊎ (did.acts ≡ [])
  pub grows : LinksGrow o.links o'.links
  pub hears : HearsRun (undialled_link result) (events_of did.acts) o.links o'.links
  pub answer : AnswersAt clients limits (terms_of limits j) did.to (j ++ batches_in did.acts)
      (ReadsShort o'.files) (MayMigrate o.files) (RunWasSpent words o o') (o'.files ≡ o.files)
      result
