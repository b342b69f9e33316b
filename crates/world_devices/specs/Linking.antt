-- What calls of a device do to its links.
use Rattle.std.specs.Prelude.{◌≡◌, ◌⊎◌, ℕ, zero, suc, ◌+◌, ◌<◌, ◌≤◌, Bool, true, false, not, [], ◌∷◌, ◌++◌, length, Option, Some, None, is_some, slice_get, Result, Ok, Err}
use Rattle.std.specs.List.{AllByRecursion}
use Rattle.std.specs.Option.{option_and_then, option_map}
use Rattle.std.specs.declared.alloc.AllocError.{AllocError}
use Rattle.outside.specs.declared.answer.Answer.{Answer}
use Rattle.outside.specs.declared.limits.TheConstants.{MAX_JOURNAL}
use Rattle.client_basic.specs.Bodies.{bundle_meaning}
use Rattle.entry_codec.specs.Spelling.{IsEntry}
use Rattle.sync_rules.specs.declared.entries.Entry.TheVariants as entry
use Rattle.sync_course.specs.declared.ends.LinkEnd.{LinkEnd}
use Rattle.sync_course.specs.Links.{is_going, is_sent_to}
use Rattle.sync_rules.specs.Facts.{Journal, facts, session_at}
use Rattle.sync_rules.specs.Legal.{Legal}
use Rattle.sync_node.specs.declared.link.Link.{Link}
use Rattle.sync_node.specs.Node.{NodeValue}
use Rattle.sync_node.specs.Output.{output}
use Rattle.world_laws.specs.Worlds.{HasSession}
use Rattle.world_devices.specs.Brought.{brought_on, bytes_of, sent_by_host}
use Rattle.world_devices.specs.Devices.{DeviceValue, IsAnew}
use Rattle.world_devices.specs.Running.{HoldsAfterCrash}
use Rattle.world_devices.specs.declared.stop.Ran.{Ran}
use Rattle.world_devices.specs.declared.stop.Ran.TheVariants as ran
use Rattle.world_devices.specs.declared.stop.StepFault.{StepFault}

-- ---- what a device that runs has

-- the number of its node's first session, and how many links the node has
abbrev pub first_of : Option NodeValue → Option ℕ
first_of node = option_map (λ (n : NodeValue). n.first) node

abbrev pub count_of_links : Option NodeValue → Option ℕ
count_of_links node = option_map (λ (n : NodeValue). length n.links) node

-- how a link stands, where the device runs and has it
abbrev pub end_at : DeviceValue → ℕ → Option LinkEnd
end_at d link =
    option_and_then (λ (n : NodeValue).
    option_map (λ (l : Link). l.end) (slice_get n.links link)) d.node

-- a link that is still asked, and one that was closed on this side
abbrev pub is_link_asked : Option LinkEnd → Bool
is_link_asked None = false
is_link_asked (Some stands) = is_going stands

abbrev pub is_shut : Option LinkEnd → Bool
is_shut None = false
is_shut (Some stands) = not (is_sent_to stands)

-- ---- what calls leave of links

-- the device goes on with the links that it had, and each brings what it brought
pub record KeepsLinks (old new : DeviceValue) : Type 0 where
  pub same_first : first_of new.node ≡ first_of old.node
  pub same_number : count_of_links new.node ≡ count_of_links old.node
  pub same_links : new.links ≡ old.links
  pub brings : (link : ℕ) → brought_on new.host link ≡ brought_on old.host link

-- it has no links
pub record IsUnlinked (d : DeviceValue) : Type 0 where
  pub none : d.links ≡ 0
  pub unlinked : count_of_links d.node ≡ Some 0

-- by what came of a call
abbrev pub LinksBy : Result Ran StepFault → DeviceValue → DeviceValue → Type 0
LinksBy (Ok ran.Done) old new = KeepsLinks old new
LinksBy (Ok ran.Crashed) old new = IsUnlinked new
LinksBy (Err fault) old new = Unit {0}

-- by what a turn answers
abbrev pub LinksByTurn : Result (Option Bool) StepFault → DeviceValue → DeviceValue → Type 0
LinksByTurn (Ok (Some still)) old new = KeepsLinks old new
LinksByTurn (Ok None) old new = IsUnlinked new
LinksByTurn (Err fault) old new = Unit {0}

-- a session with this contact began on one link more, behind the others, on which nothing is heard yet
pub record AddsLink (contact session : ℕ) (old new : DeviceValue) : Type 0 where
  pub same_first : first_of new.node ≡ first_of old.node
  pub number : count_of_links new.node ≡ Some (old.links + 1)
  pub one_more : new.links ≡ old.links + 1
  pub numbered : option_map (λ (n : NodeValue). n.first + old.links) old.node ≡ Some session
  pub brings : (link : ℕ) → brought_on new.host link ≡ brought_on old.host link
  pub quiet : brought_on new.host old.links ≡ []
  pub begun : (j : Journal) → HoldsAfterCrash j new.host → HasSession j session contact

abbrev pub LinksByAttach : ℕ → Result (Option ℕ) StepFault → DeviceValue → DeviceValue → Type 0
LinksByAttach contact (Ok (Some session)) old new = AddsLink contact session old new
LinksByAttach contact (Ok None) old new = IsUnlinked new
LinksByAttach contact (Err fault) old new = Unit {0}

-- one of its links is to bring the bytes of this answer too
pub record PlansMore (link : ℕ) (answer : Answer) (old new : DeviceValue) : Type 0 where
  pub same_node : new.node ≡ old.node
  pub same_links : new.links ≡ old.links
  pub here : link < old.links → brought_on new.host link ≡ brought_on old.host link ++ bytes_of answer
  pub others : (i : ℕ) → (i ≡ link → ⊥) ⊎ (old.links ≤ link) → brought_on new.host i ≡ brought_on old.host i

-- where there was no memory all is as before
abbrev pub LinksByPlan : ℕ → Answer → Result (Unit {0}) AllocError → DeviceValue → DeviceValue → Type 0
LinksByPlan link answer (Ok _) old new = PlansMore link answer old new
LinksByPlan link answer (Err _) old new = new ≡ old

-- ---- what stands on the links

-- Of a device that runs and holds a journal: its store has the facts of the journal, whose entries are within
-- their limits; its journal may have the greatest length. The session of each link is in the journal;
-- on a link that is not closed on this side all output of its session was sent. A link that it has not had brings nothing.
pub record LinksStand (n : NodeValue) (d : DeviceValue) (j : Journal) : Type 0 where
  pub facts_are : n.store.state.facts ≡ facts j
  pub legal : Legal bundle_meaning j
  pub within : AllByRecursion (λ batch. AllByRecursion IsEntry batch) j
  pub counted : d.links ≡ length n.links
  pub limit : n.store.limit ≡ MAX_JOURNAL
  pub known : (link : ℕ) (l : Link) → slice_get n.links link ≡ Some l → session_at (facts j).sessions (n.first + link) ≡ Some l.session
  pub sent : (link : ℕ) (l : Link) → slice_get n.links link ≡ Some l → is_sent_to l.end ≡ true
      → sent_by_host d.host link ≡ output j (n.first + link)
  pub unused : (link : ℕ) → d.links ≤ link → brought_on d.host link ≡ []

-- where a device runs, its files hold a journal, and all of that stands for whatever journal they hold
pub record DeviceLinksStand (d : DeviceValue) : Type 0 where
  pub holds : (n : NodeValue) → d.node ≡ Some n → (j : Journal) × HoldsAfterCrash j d.host
  pub each : (n : NodeValue) → d.node ≡ Some n → (j : Journal) → HoldsAfterCrash j d.host
      → LinksStand n d j

-- ---- a new device

-- what stands where a call was done and no stop fell in it
abbrev pub WhenDone : Result Ran StepFault → Type 0 → Type 0
WhenDone (Ok ran.Done) P = P
WhenDone (Ok ran.Crashed) P = Unit {0}
WhenDone (Err fault) P = Unit {0}

-- the journal of a new device: a batch for each of so many contacts
abbrev pub new_journal : ℕ → Journal
new_journal zero = []
new_journal (suc k) = new_journal k ++ ((entry.Contact k ∷ []) ∷ [])

-- It runs, and its files hold the journal of so many contacts. It has no links, this time, and no stop; its host has all links
-- that it may get, and is anew.
pub record IsNewDevice (contacts clock : ℕ) (d : DeviceValue) : Type 0 where
  pub runs : is_some d.node ≡ true
  pub holds : HoldsAfterCrash (new_journal contacts) d.host
  pub legal : Legal bundle_meaning (new_journal contacts)
  pub unlinked : IsUnlinked d
  pub clock_is : d.clock ≡ clock
  pub anew : IsAnew clock d.host
  pub unstopped : d.stop ≡ None
