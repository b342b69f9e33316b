-- What suits a run: which batches its course may add to the journal, by all that was heard.
use Rattle.std.specs.Prelude.{◌≡◌, ℕ, ◌+◌, Bool, true, false, List, [], ◌∷◌, ◌++◌, length, Option, None, Some, slice_get}
use Rattle.record_grammar.specs.Stream.{records, records_of}
use Rattle.record_grammar.specs.declared.stream.Item.{Item}
use Rattle.sync_ids.specs.declared.records.Record.{Record}
use Rattle.sync_rules.specs.declared.entries.Entry.{Entry}
use Rattle.sync_rules.specs.declared.entries.Entry.TheVariants as entry
use Rattle.sync_rules.specs.declared.entries.Session.{Session}
use Rattle.sync_rules.specs.Clients.{Meaning}
use Rattle.sync_rules.specs.Lists.{In}
use Rattle.sync_rules.specs.Facts.{Facts, after_all, takes_of}
use Rattle.sync_rules.specs.Legal.{IsSettlingBatch}
use Rattle.sync_rules.specs.Sessions.{taken}
use Rattle.sync_course.specs.declared.ends.LinkEnd.{LinkEnd}
use Rattle.sync_course.specs.declared.ends.LinkEnd.TheVariants as end
use Rattle.sync_course.specs.Links.{Link}
use Rattle.sync_course.specs.Turns.{Place}

-- the bytes heard on the link of a number, none where there is no such link
abbrev pub heard_in : Option Link → List ℕ
heard_in None = []
heard_in (Some link) = link.heard

abbrev pub heard_at_place : Place → ℕ → List ℕ
heard_at_place p i = heard_in (slice_get p.links i)

-- a batch of a session of a link: it takes, as its k-th, the k-th record heard on that link
pub record TakesHeard (first : ℕ) (heard : ℕ → List ℕ) (f : Facts) (session k : ℕ) (rest : List Entry) : Type 0 where
  pub link : ℕ
  pub on : session ≡ first + link
  pub read : Record
  pub stands : slice_get (records (heard link)) k ≡ Some read
  pub so : rest ≡ taken f session read

-- a batch that suits the run: it settles; one of the run's sessions begins; the next record heard on a link is taken; or it is an
-- output of the session of a link. The first link has this session
abbrev pub SuitsCourse : Meaning → ℕ → List Session → (ℕ → List ℕ) → Facts → List Entry → Type 0
SuitsCourse clients first sessions heard f [] = ⊥
SuitsCourse clients first sessions heard f (entry.Session s ∷ rest) = In s sessions
SuitsCourse clients first sessions heard f (entry.Take s k ∷ rest) = TakesHeard first heard f s k rest
SuitsCourse clients first sessions heard f (entry.Out s now what ∷ rest) = (link : ℕ) × (s ≡ first + link)
SuitsCourse clients first sessions heard f (entry.Judged id ∷ rest) = IsSettlingBatch clients f (entry.Judged id ∷ rest)
SuitsCourse clients first sessions heard f (entry.Deliver id ∷ rest) = IsSettlingBatch clients f (entry.Deliver id ∷ rest)
SuitsCourse clients first sessions heard f (entry.Invalid id ∷ rest) = IsSettlingBatch clients f (entry.Invalid id ∷ rest)
SuitsCourse clients first sessions heard f (_ ∷ rest) = ⊥

abbrev pub AllSuitCourse : Meaning → ℕ → List Session → (ℕ → List ℕ) → Facts → List (List Entry) → Type 0
AllSuitCourse clients first sessions heard f [] = Unit {0}
AllSuitCourse clients first sessions heard f (b ∷ bs) = SuitsCourse clients first sessions heard f b × AllSuitCourse clients first sessions heard (after_all f b) bs

-- ---- the records that were taken

-- a link whose records were not dropped: no VERSIONS closed it, and no call of it failed
abbrev pub keeps_all : LinkEnd → Bool
keeps_all (end.NoVersion place) = false
keeps_all end.Failed = false
keeps_all _ = true

-- The records heard on a link are those taken on its session, then those of the items that are to be taken, and then those that
-- were dropped; of a link that was not closed by one of them, none was dropped.
pub record IsCounted (f : Facts) (session : ℕ) (its : List Item) (link : Link) : Type 0 where
  pub done : List Record
  pub dropped : List Record
  pub parts : records link.heard ≡ done ++ (records_of its ++ dropped)
  pub count : takes_of f.takes session ≡ length done
  pub whole : keeps_all link.stands ≡ true → dropped ≡ []

-- All records that were heard on a link were taken on its session.
abbrev pub AreRecordsTaken : Facts → ℕ → Link → Type 0
AreRecordsTaken f session link = takes_of f.takes session ≡ length (records link.heard)
