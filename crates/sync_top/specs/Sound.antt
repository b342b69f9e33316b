-- The headline, put together: at each moment of a run of sessions the files stand for a legal
-- journal that extends the old one, in which each message came, was judged and ended once, in order
-- and from where it may, and which took what was heard and has what was sent. At each moment of a
-- life of a node they stand for such a journal too, which extends the one before, but for `compact`.
use Rattle.std.specs.Prelude.{◌≡◌, ◌⊎◌, ℕ, zero, suc, List, ◌∷◌, ◌++◌, Some}
use Rattle.outside.specs.Files.{File, Two, read_files}
use Rattle.outside.specs.Outside.{IsNow, MomentsAre, Outside}
use Rattle.sync_rules.specs.declared.entries.Entry.{Entry}
use Rattle.sync_rules.specs.declared.entries.Entry.TheVariants as entry
use Rattle.sync_rules.specs.Clients.{Meaning}
use Rattle.sync_rules.specs.Facts.{ExtendsJournal, Journal, facts, takes_of}
use Rattle.sync_rules.specs.Laws.{BringsOnce, EndsOnce, HasOwnOrigin, IsInOrder, JudgesOnce}
use Rattle.sync_rules.specs.Legal.{Legal}
use Rattle.sync_rules.specs.Output.{SendsTheOpen}
use Rattle.entry_codec.specs.Standing.{Standing, journal}
use Rattle.file_standing.specs.Standing.{stands}
use Rattle.sync_course.specs.Suits.{TakesHeard}
use Rattle.sync_node.specs.Output.{AreOutput}
use Rattle.sync_words.specs.declared.link_words.LinkWords.{LinkWords}
use Rattle.commands.specs.Reading.{Asked}
use Rattle.store_commands.specs.Stopping.{StoodFor}
use Rattle.sync_run.specs.Headline.{AlwaysLeaves, StandsForRun}
use Rattle.brief_account.specs.Brief.{brief}
use Rattle.sync_top.specs.Run.{AsksServe, AsksSync}

-- ---- the journal of a moment

-- Wherever a batch takes a record that stands behind an earlier journal, it takes the next one of
-- its session, and is what the record of that number, among those heard on the session's link, is
-- taken as. The first link has this session.
abbrev pub TakesInOrder : (begin whole : Journal) → ℕ → (ℕ → List ℕ) → Type 0
TakesInOrder begin whole first heard =
    (before behind : Journal) (session k : ℕ) (rest : List Entry)
    → whole ≡ (begin ++ before) ++ (entry.Take session k ∷ rest) ∷ behind
    → (k ≡ takes_of (facts (begin ++ before)).takes session)
    × TakesHeard first heard (facts (begin ++ before)) session k rest

-- What is so of a journal of a run that began with another one, by what was heard and what was sent
-- on each link of the run.
pub record IsRunSound (clients : Meaning) (begin whole : Journal)
    (heard sent : ℕ → List ℕ) : Type 0 where
  pub legal : Legal clients whole
  pub extends : ExtendsJournal whole begin
  -- each id comes, is judged and ends at most once
  pub comes_once : BringsOnce whole
  pub judged_once : JudgesOnce whole
  pub ends_once : EndsOnce whole
  -- it is delivered behind its judgement, which accepts it, and behind all that it depends on
  pub in_order : IsInOrder clients whole
  -- it was written here, or came from a contact to whom its group was not Invisible
  pub from_where : HasOwnOrigin whole
  -- the records that were taken on a link are the first of those heard on it, in order
  pub takes : TakesInOrder begin whole (facts begin).begun heard
  -- what was sent on a link is a front of its session's output, which acknowledges what is held,
  -- and sends and offers what is open
  pub has_sent : AreOutput whole (facts begin).begun sent
  pub sends_the_open : SendsTheOpen whole

-- files stand for such a journal
pub record OpensSound (clients : Meaning) (begin : Journal) (heard sent : ℕ → List ℕ)
    (files : Two (List ℕ)) : Type 0 where
  pub whole : Journal
  pub opens : stands clients files ≡ journal whole
  pub sound : IsRunSound clients begin whole heard sent

-- every journal of a run is such
abbrev pub RunsAreSound : Type 0
RunsAreSound =
    (clients : Meaning) (words : List LinkWords) (begin : Journal) (heard sent : ℕ → List ℕ)
    (files : Two (List ℕ)) → StandsForRun clients words begin heard sent files
    → OpensSound clients begin heard sent files

-- the same where files stood for a journal when the run began
abbrev pub OpensOn : Meaning → Standing → (heard sent : ℕ → List ℕ) → Two (List ℕ) → Type 0
OpensOn clients standing heard sent files =
    StoodFor standing (λ begin. OpensSound clients begin heard sent files)

-- ---- a life of a node

-- a journal goes on from another one through so many brief accounts
abbrev pub GoesOnThrough : (accounts : ℕ) → (begin whole : Journal) → Type 0
GoesOnThrough zero begin whole = ExtendsJournal whole begin
GoesOnThrough (suc accounts) begin whole =
    (settled : Journal) × ExtendsJournal settled begin × GoesOnThrough accounts (brief settled) whole

-- what is so of a journal of a life that began with another one
pub record IsLifeSound (clients : Meaning) (begin whole : Journal) : Type 0 where
  pub legal : Legal clients whole
  pub accounts : ℕ
  pub goes_on : GoesOnThrough accounts begin whole
  pub comes_once : BringsOnce whole
  pub judged_once : JudgesOnce whole
  pub ends_once : EndsOnce whole
  pub in_order : IsInOrder clients whole
  pub from_where : HasOwnOrigin whole

-- files stand for such a journal
pub record OpensInLife (clients : Meaning) (begin : Journal) (files : Two (List ℕ)) : Type 0 where
  pub whole : Journal
  pub opens : stands clients files ≡ journal whole
  pub sound : IsLifeSound clients begin whole

-- every journal of a life is such
abbrev pub LivesAreSound : Type 0
LivesAreSound =
    (clients : Meaning) (begin whole : Journal) (accounts : ℕ) (files : Two (List ℕ))
    → stands clients files ≡ journal whole → GoesOnThrough accounts begin whole
    → OpensInLife clients begin files

-- at each moment a crash leaves what it might have left before, or such files
abbrev pub LifeOpens : Meaning → (old new : Outside) → Type 0
LifeOpens clients old new =
    (two : Two File) → old.files ≡ Some two
    → MomentsAre old new (λ m. IsNow two old.links m
    ⊎ StoodFor (stands clients (read_files two)) (λ begin. OpensInLife clients begin m.files))

-- whatever the links bring, whatever call fails and whenever the device stops, a run of sessions
-- leaves files that open to a sound journal, and so does a node that serves, whatever is asked of it
abbrev pub AlwaysOpens : Meaning → Asked → (old new : Outside) → Type 0
AlwaysOpens clients words old new =
    (AsksSync words → AlwaysLeaves clients (OpensSound clients) old new)
    × (AsksServe words → LifeOpens clients old new)
