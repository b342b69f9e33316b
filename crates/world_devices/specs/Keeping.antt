-- What a device keeps: whatever a crash leaves of its files stands for a journal that goes on from each earlier one.
use Rattle.std.specs.Prelude.{◌≡◌, ℕ, List, [], ◌++◌, Some}
use Rattle.outside.specs.Files.{Two, File, IsImage}
use Rattle.outside.specs.Outside.{Outside}
use Rattle.outside.specs.Runs.{answers_at}
use Rattle.client_basic.specs.Bodies.{bundle_meaning}
use Rattle.entry_codec.specs.Standing.{journal}
use Rattle.file_standing.specs.Standing.{stands}
use Rattle.sync_rules.specs.Facts.{Journal, facts}
use Rattle.sync_rules.specs.Legal.{Legal}
use Rattle.sync_course.specs.Acts.{Act, batches_in, sends_on}
use Rattle.sync_course.specs.Free.{Free, Rests}
use Rattle.sync_course.specs.Owing.{paid}
use Rattle.sync_course.specs.Story.{FreeActs}
use Rattle.sync_node.specs.Courses.{AllRead, FitsWith, links_from}
use Rattle.sync_node.specs.Node.{NodeValue}
use Rattle.sync_node.specs.Output.{heard_on, sent_on}
use Rattle.world_laws.specs.Worlds.{HasNoBrief}

-- ---- what a crash leaves

-- whatever a crash leaves now has this
pub record AfterCrash (Has : Two (List ℕ) → Type 0) (o : Outside) : Type 0 where
  pub each : (two : Two File) → o.files ≡ Some two → (left : Two (List ℕ)) → IsImage two left
      → Has left

-- files that stand for a journal that has this
pub record StandsForSome (Has : Journal → Type 0) (files : Two (List ℕ)) : Type 0 where
  pub whole : Journal
  pub has : Has whole
  pub stands_for : stands bundle_meaning files ≡ journal whole

abbrev pub LeavesSome : (Journal → Type 0) → Outside → Type 0
LeavesSome Has o = AfterCrash (StandsForSome Has) o

-- a journal goes on from another by batches of which none begins a brief account
pub record WentOn (j whole : Journal) : Type 0 where
  pub more : Journal
  pub plain : HasNoBrief more
  pub is : whole ≡ j ++ more

-- whatever a crash leaves now stands for a journal that goes on from this one
abbrev pub HoldsLaterJournal : Journal → Outside → Type 0
HoldsLaterJournal j o = LeavesSome (WentOn j) o

-- whatever a crash leaves now stands for a legal journal
abbrev pub StandsLegal : Outside → Type 0
StandsLegal o = LeavesSome (Legal bundle_meaning) o

-- from whatever journal: what went on from it before goes on from it
abbrev pub KeepsOn : Outside → Outside → Type 0
KeepsOn o o' = (j : Journal) → HoldsLaterJournal j o → HoldsLaterJournal j o'

-- nothing was sent and nothing heard on any link
pub record AreLinksQuiet (o : Outside) : Type 0 where
  pub sent : (link : ℕ) → sent_on o.links link ≡ []
  pub heard : (link : ℕ) → answers_at o.links.heard link ≡ []

-- the place at which a node stands between two calls, by what is told to be heard on its links
abbrev pub node_place : NodeValue → Outside → Free
node_place n o = record { hold = Rests; links = links_from 0 n.links (heard_on o.links); facts = n.store.state.facts }

-- What a node did since it began over a legal journal: these acts, which lead to where it stands now. What went out on each link is
-- what they sent, and the disk fits the store with that journal and their batches.
pub record IsRunSoFar (n : NodeValue) (o : Outside) : Type 0 where
  pub begin : Journal
  pub legal : Legal bundle_meaning begin
  pub first : (facts begin).begun ≡ n.first
  pub acts : List Act
  pub path : FreeActs bundle_meaning begin acts (paid (node_place n o))
  pub has_read : AllRead (heard_on o.links) n.links
  pub sent : (link : ℕ) → sent_on o.links link ≡ sends_on link acts
  pub fits : FitsWith bundle_meaning n.store o.files (begin ++ batches_in acts)

-- another outside tells the same of files, and of what was sent and heard
pub record TellsSame (o o' : Outside) : Type 0 where
  pub files : o'.files ≡ o.files
  pub told : o'.links.told ≡ o.links.told
  pub heard : o'.links.heard ≡ o.links.heard
  pub dialled : o'.links.dialled ≡ o.links.dialled
