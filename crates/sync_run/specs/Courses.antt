-- What a run of sessions does, as a course: the journal, the answers heard and the readings of the
-- clock are those of a path of events, and it closes as the links are said to have ended.
use Rattle.std.specs.Prelude.{◌≡◌, ◌≢◌, ◌⊎◌, ℕ, ◌+◌, ◌<◌, Bool, true, false, if◌then◌else◌, nat_eq}
use Rattle.std.specs.Prelude.{nat_le}
use Rattle.std.specs.Prelude.{nat_lt, List, ◌++◌, length, map, Option, None, Some, Result, Ok, Err}
use Rattle.std.specs.Prelude.{slice_get}
use Rattle.std.specs.List.{list_any}
use Rattle.std.specs.Option.{option_map}
use Rattle.outside.specs.declared.limits.TheConstants.{MAX_JOURNAL}
use Rattle.outside.specs.Disk.{RelatesTold}
use Rattle.outside.specs.Faults.{one_more}
use Rattle.outside.specs.Files.{Two, File, read_files, ReadsSame}
use Rattle.outside.specs.Links.{HeardOn, Links, ToldLink}
use Rattle.outside.specs.Outside.{Outside}
use Rattle.outside.specs.Runs.{IsFront, TellsAll}
use Rattle.sync_rules.specs.declared.entries.Entry.{Entry}
use Rattle.sync_rules.specs.declared.entries.Session.{Session}
use Rattle.sync_rules.specs.declared.limits.TheConstants.{MAX_SESSIONS}
use Rattle.sync_rules.specs.declared.states.Refused.{Refused}
use Rattle.sync_rules.specs.declared.states.Refused.TheVariants as refused
use Rattle.sync_rules.specs.Clients.{Meaning}
use Rattle.sync_rules.specs.Facts.{Facts, Journal, facts}
use Rattle.entry_codec.specs.declared.naming.Format.TheVariants as kind
use Rattle.entry_codec.specs.Standing.{Standing, damaged, journal, no_store}
use Rattle.sync_course.specs.Closing.{Closing, closing}
use Rattle.sync_course.specs.Events.{Commit, Event, GrowsBy, batches_of, failures_after}
use Rattle.sync_course.specs.Events.{heard_after, readings_of}
use Rattle.sync_course.specs.Links as course_links
use Rattle.sync_course.specs.Quiet.{EndsQuiet}
use Rattle.sync_course.specs.Paths.{Path}
use Rattle.sync_course.specs.Turns.{Ended, Place, RunStep, Terms, first_place, is_over}
use Rattle.sync_node.specs.Courses.{ReadsAs}
use Rattle.sync_course.specs.declared.ends.LinkEnd.TheVariants as end
use Rattle.sync_node.specs.Output.{output, sent_on}
use Rattle.store_commands.specs.Commit.{HasLastGeneration, IsInFormat, MayMigrate, needed_by}
use Rattle.store_commands.specs.Show.{FilesReadSame}
use Rattle.store_commands.specs.Stopping.{StoodFor}
use Rattle.sync_words.specs.declared.link_words.LinkWords.{LinkWords}
use Rattle.sync_words.specs.declared.outcome.Outcome.{Outcome}
use Rattle.sync_words.specs.declared.outcome.Outcome.TheVariants as outcome
use Rattle.sync_run.specs.declared.run.Limits.{Limits}
use Rattle.sync_run.specs.Dialling.{MakesLinks, unheard}
use Rattle.sync_run.specs.Ends.{AllHeardAsTold, AllStandByHeard}
use Rattle.sync_run.specs.Plans.{ArePlanned}

-- what a run is asked for whose first session has this number
abbrev pub terms_at : Limits → ℕ → Terms
terms_at limits first = record { first = first; turns = limits.turns; quiet = limits.quiet }

-- what a run over a journal is asked for
abbrev pub terms_of : Limits → Journal → Terms
terms_of limits begin = terms_at limits (facts begin).begun

-- a link's count of failures behind the dials: one more where it is the one that could not be dialled
abbrev pub dialled_faults : Option ℕ → ℕ → ℕ → ℕ
dialled_faults None link count = count
dialled_faults (Some undialled) link count =
    if nat_eq undialled link then one_more count else count

-- From a host on which no link was made: what the links heard and what the clock gave is what the
-- events say, wherever it is told; and the count of a link's failures rose by one where it could
-- not be dialled, and for each event that says that a call of it failed.
pub record HearsRun (undialled : Option ℕ) (events : List Event) (old new : Links) : Type 0 where
  pub heard : new.heard
      ≡ option_map (λ (h : List HeardOn). heard_after events (unheard new.dialled)) old.heard
  pub readings : GrowsBy (readings_of events) old.readings new.readings
  pub faults : (link : ℕ) → new.faults link
      ≡ failures_after link events (dialled_faults undialled link (old.faults link))

-- where files are told, the file of the journal is in format 2
abbrev pub ReadsShort : Option (Two File) → Type 0
ReadsShort files = (two : Two File) → files ≡ Some two → IsInFormat kind.Short (read_files two)

-- the links that were made have the first specs of the words, in order
abbrev pub HaveSpecs : List LinkWords → Outside → Type 0
HaveSpecs words new = (links : List ToldLink) → new.links.told ≡ Some links
    → IsFront (map (λ (l : ToldLink). l.spec) links) (map (λ (w : LinkWords). w.spec) words)

-- What a run did so far: a course of the sessions of all words, up to some place. Where a session
-- had begun all links were made.
pub record RanSoFar (clients : Meaning) (limits : Limits) (words : List LinkWords)
    (begin : Journal) (old new : Outside) : Type 0 where
  pub sessions : List Session
  pub planned : ArePlanned (facts begin).begun words sessions
  pub all_planned : length sessions ≡ length words
  pub events : List Event
  pub last : Place
  pub course : Path (RunStep clients (terms_of limits begin)) (first_place sessions (facts begin))
      events last
  pub all_made : (facts begin).begun < last.facts.begun → new.links.dialled ≡ length words
  pub hears : HearsRun None events old.links new.links
  pub reads : ReadsAs clients new.files (begin ++ batches_of events)

-- Memory was wanting. Where a session had begun, the journal is in format 2.
pub record RanShort (clients : Meaning) (limits : Limits) (words : List LinkWords)
    (begin : Journal) (old new : Outside) : Type 0 where
  pub run : RanSoFar clients limits words begin old new
  pub short : (facts begin).begun < run.last.facts.begun → ReadsShort new.files

-- The run came to its end, and closes so. Each link was made, and stands by what was heard on it.
-- Where the run was over nothing is due on a link that is not closed, and what was heard was taken.
-- It began with a journal in format 2, or with one for which a generation was left, and leaves one
-- in format 2.
pub record RanToEnd (clients : Meaning) (limits : Limits) (words : List LinkWords)
    (begin : Journal) (old new : Outside) (ends : Closing) : Type 0 where
  pub run : RanSoFar clients limits words begin old new
  pub at_end : run.last.stage ≡ Ended
  pub all_made : new.links.dialled ≡ length words
  pub closes : ends ≡ closing limits.quiet run.last
  pub by_heard : AllStandByHeard run.last
  pub as_told : AllHeardAsTold run.last new
  pub quiet : is_over limits.quiet run.last ≡ true
      → EndsQuiet clients (terms_of limits begin) run.events run.last
  pub next : MayMigrate old.files
  pub short : ReadsShort new.files

-- There was no room: from its last place the next step of the course commits a batch with which the
-- journal, the batch's frame and the room for settling pass the greatest length of a journal; a link
-- that has not failed there has sent the whole; and the journal is in format 2.
pub record WasOver (clients : Meaning) (limits : Limits) (words : List LinkWords)
    (begin : Journal) (old new : Outside) : Type 0 where
  pub run : RanSoFar clients limits words begin old new
  pub batch : List Entry
  pub next : Place
  pub steps : RunStep clients (terms_of limits begin) run.last (Commit batch) next
  pub over : MAX_JOURNAL < needed_by (begin ++ batches_of run.events) batch
  pub sent : TellsAll new → (i : ℕ) (l : course_links.Link) → slice_get run.last.links i ≡ Some l
      → l.stands ≢ end.Failed
      → sent_on new.links i ≡ output (begin ++ batches_of run.events) ((facts begin).begun + i)
  pub short : ReadsShort new.files

-- No generation was left for a journal in format 2: the files read as before. All links were made,
-- and nothing was sent or heard on them.
pub record RunWasSpent (words : List LinkWords) (old new : Outside) : Type 0 where
  pub last : (two : Two File) → old.files ≡ Some two → HasLastGeneration (read_files two)
  pub still : (two two' : Two File) → old.files ≡ Some two → new.files ≡ Some two'
      → FilesReadSame two two'
  pub links : MakesLinks words old.links new.links

-- there was no room for a batch, or no generation left
abbrev pub WasFull : Meaning → Limits → List LinkWords → Journal → (old new : Outside) → Type 0
WasFull clients limits words begin old new =
    WasOver clients limits words begin old new ⊎ RunWasSpent words old new

-- some contact of the words is not known
abbrev pub is_unknown : Facts → List LinkWords → Bool
is_unknown f words = list_any (λ (w : LinkWords). nat_le f.contacts w.contact) words

-- the test of a run that fails first: a contact of the words is not known, or with a session for
-- each of them there would be too many
abbrev pub run_test : Facts → List LinkWords → Option Refused
run_test f words =
    if is_unknown f words then Some refused.UnknownContact
    else if nat_lt MAX_SESSIONS (f.begun + length words) then Some refused.TooManySessions
    else None

-- the test of the contacts
abbrev pub TestsContacts : Facts → List LinkWords → Result (Unit {0}) Refused → Type 0
TestsContacts f words (Ok _) = is_unknown f words ≡ false
TestsContacts f words (Err why) = (why ≡ refused.UnknownContact) × (is_unknown f words ≡ true)

-- both tests
abbrev pub TestsWords : Facts → List LinkWords → Result (Unit {0}) Refused → Type 0
TestsWords f words (Ok _) = run_test f words ≡ None
TestsWords f words (Err why) = run_test f words ≡ Some why

-- the files stood for a journal for which the tests of the words hold, or this one fails first, and
-- of which P is so
abbrev pub OfJournal : List LinkWords → Standing → Option Refused → (Journal → Type 0) → Type 0
OfJournal words standing fails P =
    StoodFor standing (λ begin. (run_test (facts begin) words ≡ fails) × P begin)

-- What the command comes to, by what the files stood for; what is said of journals, answers and
-- readings is said where the files were told. A run that ends before its first session leaves the
-- files as they read: so does a dial that failed.
abbrev pub RunComesTo : Meaning → Limits → List LinkWords → Standing → (old new : Outside)
    → Result Closing Outcome → Type 0
RunComesTo clients limits words stood old new (Ok ends) =
    OfJournal words stood None (λ begin. RanToEnd clients limits words begin old new ends)
RunComesTo clients limits words stood old new (Err outcome.NoStore) = stood ≡ no_store
RunComesTo clients limits words stood old new (Err (outcome.Damaged place)) =
    stood ≡ damaged place.file place.at
RunComesTo clients limits words stood old new (Err (outcome.Refused why)) =
    OfJournal words stood (Some why) (ReadsAs clients new.files)
RunComesTo clients limits words stood old new (Err (outcome.LinkFailed link)) =
    OfJournal words stood None (λ begin. RelatesTold ReadsSame old.files new.files)
RunComesTo clients limits words stood old new (Err outcome.Full) =
    OfJournal words stood None (λ begin. WasFull clients limits words begin old new)
RunComesTo clients limits words stood old new (Err outcome.Memory) =
    (begin : Journal) → stood ≡ journal begin → RanShort clients limits words begin old new
RunComesTo clients limits words stood old new (Err outcome.DiskFault) =
    (begin : Journal) → stood ≡ journal begin → RanSoFar clients limits words begin old new
RunComesTo clients limits words stood old new (Err _) = ⊥
