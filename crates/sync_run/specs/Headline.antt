-- The headline: whatever the links bring, cut or repeat, whatever call fails and whenever the
-- device stops, its files stand for a legal journal that extends the old one, took what was heard
-- in order, and has every byte that was sent.
use Rattle.std.specs.Prelude.{◌≡◌, ◌≢◌, ◌⊎◌, ℕ, ◌+◌, ◌<◌, List, [], Option, Some, Result, Err}
use Rattle.std.specs.Prelude.{slice_get, slice_index_or}
use Rattle.outside.specs.Faults.{CountRose}
use Rattle.outside.specs.Files.{Two, File, IsImage, read_files}
use Rattle.outside.specs.Outside.{Outside, Moment, MomentsAre, IsNow}
use Rattle.outside.specs.Runs.{TellsAll}
use Rattle.sync_rules.specs.declared.entries.Session.{Session}
use Rattle.sync_rules.specs.Clients.{Meaning}
use Rattle.sync_rules.specs.Facts.{Journal, facts}
use Rattle.entry_codec.specs.Standing.{journal}
use Rattle.file_standing.specs.Standing.{stands}
use Rattle.sync_node.specs.Output.{AreOutput, heard_on, output, sent_on}
use Rattle.sync_node.specs.Suits.{SuitsRun}
use Rattle.store_commands.specs.Stopping.{StoodFor}
use Rattle.sync_words.specs.declared.link_words.LinkWords.{LinkWords}
use Rattle.sync_course.specs.declared.ends.LinkEnd.{LinkEnd}
use Rattle.sync_course.specs.declared.ends.LinkEnd.TheVariants as end
use Rattle.sync_course.specs.Closing.{Closing}
use Rattle.sync_words.specs.declared.outcome.Outcome.{Outcome}
use Rattle.sync_words.specs.declared.outcome.Outcome.TheVariants as outcome
use Rattle.sync_run.specs.Plans.{ArePlanned}

-- the bytes sent by a moment, on each link
abbrev pub sent_at_moment : Moment → ℕ → List ℕ
sent_at_moment m link = slice_index_or m.sent link []

-- Files stand for a journal of a run of these words: it goes on from the one that the run began
-- with by settling, by sessions as the words plan them, by what was taken of what was heard, in
-- order, and by outputs; and what was sent on each link is a front of its session's output.
pub record StandsForRun (clients : Meaning) (words : List LinkWords) (begin : Journal)
    (heard sent : ℕ → List ℕ) (files : Two (List ℕ)) : Type 0 where
  pub sessions : List Session
  pub planned : ArePlanned (facts begin).begun words sessions
  pub whole : Journal
  pub stands_for : stands clients files ≡ journal whole
  pub suits : SuitsRun clients begin (facts begin).begun sessions heard whole
  pub has_sent : AreOutput whole (facts begin).begun sent

-- a moment that might have been before the command, at which nothing was sent
pub record IsUntouched (two : Two File) (old : Outside) (m : Moment) : Type 0 where
  pub now : IsNow two old.links m
  pub nothing_sent : (link : ℕ) → sent_at_moment m link ≡ []

-- Where files, links and what they heard are told; the files were `two` when the command began. At
-- each moment a crash leaves what it might have left before, nothing being sent, or files of which
-- P is so, by the journal that the run began with, by what was heard and by what was sent by then:
-- so P is so from the first byte on that was sent. At the end P is so of the files as they read.
pub record RunLeaves (clients : Meaning)
    (P : Journal → (heard sent : ℕ → List ℕ) → Two (List ℕ) → Type 0) (two : Two File)
    (old new : Outside) (told : TellsAll new) : Type 0 where
  pub moments : MomentsAre old new (λ m. IsUntouched two old m
      ⊎ StoodFor (stands clients (read_files two))
      (λ begin. P begin (heard_on new.links) (sent_at_moment m) m.files))
  pub ends : (begin : Journal) → stands clients (read_files two) ≡ journal begin
      → P begin (heard_on new.links) (sent_on new.links) (read_files told.two)

-- whatever the links bring, whatever call fails and whenever the device stops, it leaves such files
abbrev pub AlwaysLeaves : Meaning → (Journal → (heard sent : ℕ → List ℕ) → Two (List ℕ) → Type 0)
    → (old new : Outside) → Type 0
AlwaysLeaves clients P old new =
    (two : Two File) → old.files ≡ Some two → (told : TellsAll new)
    → RunLeaves clients P two old new told

-- it leaves files that stand for a journal of the run of these words
abbrev pub Headline : Meaning → List LinkWords → (old new : Outside) → Type 0
Headline clients words old new = AlwaysLeaves clients (StandsForRun clients words) old new

-- nothing is pending in the files: each crash leaves what a read gives
abbrev pub AtRest : Option (Two File) → Type 0
AtRest files = (two : Two File) → files ≡ Some two → (left : Two (List ℕ)) → IsImage two left
    → left ≡ read_files two

-- but where a call on the disk failed
abbrev pub LeavesFilesAtRest : Option (Two File) → Result Closing Outcome → Type 0
LeavesFilesAtRest files (Err outcome.DiskFault) = Unit {0}
LeavesFilesAtRest files _ = AtRest files

-- On a link of a run that came to its end, but where a call of it failed, all output of its session
-- was sent.
abbrev pub SentWhole : Meaning → Two File → Outside → Closing → Type 0
SentWhole clients two new ends =
    (told : TellsAll new) (begin whole : Journal) → stands clients (read_files two) ≡ journal begin
    → stands clients (read_files told.two) ≡ journal whole
    → (i : ℕ) (stands : LinkEnd) → slice_get ends.ends i ≡ Some stands → stands ≢ end.Failed
    → sent_on new.links i ≡ output whole ((facts begin).begun + i)

-- Where a batch found no room: on each link whose session had begun, but where a call of it failed
-- in this command, all output of its session was sent.
abbrev pub AllSentWhenFull : Meaning → Two File → (old new : Outside) → Type 0
AllSentWhenFull clients two old new =
    (told : TellsAll new) (begin whole : Journal) → stands clients (read_files two) ≡ journal begin
    → stands clients (read_files told.two) ≡ journal whole
    → (i : ℕ) → (facts begin).begun + i < (facts whole).begun
    → CountRose (old.links.faults i) (new.links.faults i)
    ⊎ (sent_on new.links i ≡ output whole ((facts begin).begun + i))
