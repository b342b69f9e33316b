-- How a stage stands for a world of journals and records, and what a call on it leads to.
use Rattle.std.specs.Prelude.{◌≡◌, ℕ, ◌+◌, ◌<◌, ◌≤◌, ◌==◌, Bool, true, false, if◌then◌else◌, List}
use Rattle.std.specs.Prelude.{[], ◌++◌, length, Option, Some, None, is_some, slice_get, Result, Ok}
use Rattle.std.specs.Prelude.{Err}
use Rattle.std.specs.Option.{option_map}
use Rattle.client_basic.specs.Bodies.{bundle_meaning}
use Rattle.record_grammar.specs.Spelling.{spelled}
use Rattle.sync_ids.specs.declared.records.Record.{Record}
use Rattle.sync_node.specs.Node.{NodeValue}
use Rattle.sync_rules.specs.Facts.{Journal, facts}
use Rattle.sync_rules.specs.Legal.{Legal}
use Rattle.sync_rules.specs.Output.{sent}
use Rattle.world_laws.specs.Theorem.{HeldIsWritten, IsNewWorld, RestIsDone, SeenIsHeld}
use Rattle.world_laws.specs.Worlds.{World, journal_at, journal_in}
use Rattle.world_devices.specs.Brought.{brought_on}
use Rattle.world_devices.specs.Devices.{DeviceValue}
use Rattle.world_devices.specs.Linking.{DeviceLinksStand, count_of_links}
use Rattle.world_devices.specs.Running.{HoldsAfterCrash, ReadsAsJournal}
use Rattle.world_devices.specs.declared.stop.StepFault.{StepFault}
use Rattle.world_devices.specs.declared.stop.StepFault.TheVariants as fault
use Rattle.world_links.specs.Ends.{EndValue, input_of}
use Rattle.world_links.specs.declared.link.Link.{Link}
use Rattle.sync_world.specs.Shown.{ReachesWorld, ShowsLinks, world_of}
use Rattle.sync_world.specs.declared.stage.Stage.{Stage}

-- ---- devices

-- it runs, whatever a crash leaves of its files stands for this legal journal, and its node has as
-- many links as it
pub record IsUp (j : Journal) (device : DeviceValue) : Type 0 where
  pub runs : is_some device.node ≡ true
  pub holds : HoldsAfterCrash j device.host
  pub legal : Legal bundle_meaning j
  pub numbered : count_of_links device.node ≡ Some device.links

-- there is a journal for each device, and each device is up with its own
pub record AreUp (js : List Journal) (devices : List DeviceValue) : Type 0 where
  pub same_number : length js ≡ length devices
  pub each : (d : ℕ) (device : DeviceValue) → slice_get devices d ≡ Some device
      → IsUp (journal_in js d) device

-- there is a journal for each device, and the files of each as they read stand for its own
pub record AreRead (js : List Journal) (devices : List DeviceValue) : Type 0 where
  pub same_number : length js ≡ length devices
  pub each : (d : ℕ) (device : DeviceValue) → slice_get devices d ≡ Some device → ReadsAsJournal
      (journal_in js d) device.host

-- ---- ends of links

-- the end of a link at which a device stands, if it is one of the two
abbrev pub own_end : ℕ → Link → Option EndValue
own_end d l =
    if l.near.device == d then Some l.near else if l.far.device == d then Some l.far else None

abbrev pub place_in : Option EndValue → Option ℕ
place_in None = None
place_in (Some e) = e.at

-- the number that a link has at the host of a device, while the device has it
abbrev pub place_on : ℕ → Link → Option ℕ
place_on d l = place_in (own_end d l)

-- so many bytes are the first records that a session sends, by its journal
pub record SeenBy (j : Journal) (number seen : ℕ) : Type 0 where
  pub before : List Record
  pub behind : List Record
  pub sends : sent j number ≡ before ++ behind
  pub counted : seen ≡ length (spelled before)

-- the session of a device's link
abbrev pub session_on : DeviceValue → ℕ → Option ℕ
session_on device a = option_map (λ (n : NodeValue). n.first + a) device.node

-- An end is wired to the link of this number at its device: it has the session of that link; what
-- the link brings and what is yet to be heard are all that the end was given; and where the link is
-- not cut, what was seen are the first records of the session.
pub record IsEndWired (j : Journal) (device : DeviceValue) (cut : Bool) (e : EndValue)
    (a : ℕ) : Type 0 where
  pub below : a < device.links
  pub session : e.session ≡ session_on device a
  pub brought : brought_on device.host a ++ input_of e ≡ e.given
  pub seen : cut ≡ false → (number : ℕ) → e.session ≡ Some number → SeenBy j number e.seen

-- a link has this number at the host of the device
pub record IsSeated (d : ℕ) (links : List Link) (a : ℕ) : Type 0 where
  pub number : ℕ
  pub link : Link
  pub stands : slice_get links number ≡ Some link
  pub here : place_on d link ≡ Some a

-- each end that a device has is wired to the link of its number, no two have the same number, and
-- each number has an end
pub record AreWired (j : Journal) (d : ℕ) (device : DeviceValue) (links : List Link) : Type 0 where
  pub each : (i : ℕ) (l : Link) (e : EndValue) (a : ℕ) → slice_get links i ≡ Some l
      → own_end d l ≡ Some e → e.at ≡ Some a
      → IsEndWired j device l.is_cut e a
  pub once : (i k : ℕ) (l m : Link) (a : ℕ) → slice_get links i ≡ Some l
      → slice_get links k ≡ Some m → place_on d l ≡ Some a
      → place_on d m ≡ Some a → i ≡ k
  pub all : (a : ℕ) → a < device.links → IsSeated d links a

-- a link stands between two of so many devices, and neither end heard more than it was given
pub record IsLinkPlaced (count : ℕ) (l : Link) : Type 0 where
  pub near : l.near.device < count
  pub far : l.far.device < count
  pub apart : l.near.device ≡ l.far.device → ⊥
  pub near_heard : l.near.heard ≤ length l.near.given
  pub far_heard : l.far.heard ≤ length l.far.given

abbrev pub ArePlaced : ℕ → List Link → Type 0
ArePlaced count links = (i : ℕ) (l : Link) → slice_get links i ≡ Some l → IsLinkPlaced count l

abbrev pub AllWired : List Journal → List DeviceValue → List Link → Type 0
AllWired js devices links =
    (d : ℕ) (device : DeviceValue) → slice_get devices d ≡ Some device
    → AreWired (journal_in js d) d device links

-- ---- stages

-- devices and links show a world: each device is up with its journal, the links show its links, and
-- their ends are wired
pub record IsShown (w : World) (devices : List DeviceValue) (links : List Link) : Type 0 where
  pub up : AreUp w.journals devices
  pub shown : ShowsLinks links w.links
  pub placed : ArePlaced (length devices) links
  pub wired : AllWired w.journals devices links

-- no memory was found or a journal was full: nothing more is made then
abbrev pub is_fatal : {A : Type 0} → Result A StepFault → Bool
is_fatal (Ok a) = false
is_fatal (Err fault.Refused) = false
is_fatal (Err fault.Full) = true
is_fatal (Err fault.Memory) = true

-- Steps lead from a world to one whose journals the files of the devices stand for; and where
-- nothing failed for good, the devices and links show it.
pub record LeadsOn (w : World) (fatal : Bool) (devices : List DeviceValue)
    (links : List Link) : Type 0 where
  pub after : World
  pub reached : ReachesWorld bundle_meaning w after
  pub read : AreRead after.journals devices
  pub shown : fatal ≡ false → IsShown after devices links

-- so it is from each world that was shown before
abbrev pub LeadsFromShown : Bool → Stage → Stage → Type 0
LeadsFromShown fatal old new =
    (w : World) → IsShown w old.devices.items old.links.items
    → LeadsOn w fatal new.devices.items new.links.items

-- the fault that a stage has answered
abbrev pub is_harmed : Option StepFault → Bool
is_harmed None = false
is_harmed (Some f) = true

-- what every stage between steps is: it was reached from a new world by steps; and where no fault
-- stands, the journal of each device had a contact for each other one in that new world
pub record IsWorld (s : Stage) : Type 0 where
  pub start : World
  pub new : IsNewWorld bundle_meaning start
  pub stands : LeadsOn start (is_harmed s.fault) s.devices.items s.links.items
  pub contacts : is_harmed s.fault ≡ false → (d : ℕ) → d < length s.devices.items
      → length s.devices.items ≤ (facts (journal_at start d)).contacts + 1

-- ---- many devices

-- of each device: what stands on its links, and in its store
abbrev pub AllLinksStand : List DeviceValue → Type 0
AllLinksStand devices =
    (d : ℕ) (device : DeviceValue) → slice_get devices d ≡ Some device → DeviceLinksStand device

-- each device that runs has in its store the facts of its journal
abbrev pub AreTold : List Journal → List DeviceValue → Type 0
AreTold js devices =
    (d : ℕ) (device : DeviceValue) (n : NodeValue) → slice_get devices d ≡ Some device
    → device.node ≡ Some n
    → n.store.state.facts ≡ facts (journal_in js d)

-- These are the journals of the devices: there is one for each, for which its files as they read
-- stand, and each device that runs has in its store the facts of its own. Each is legal; what a
-- device counts as seen by another one is held by that other; each held message was written by some
-- device; and where a session is at rest all that is to reach its contact is held there.
pub record AreManyDevices (journals : List Journal) (devices : List DeviceValue) : Type 0 where
  pub read : AreRead journals devices
  pub told : AreTold journals devices
  pub legal : (d : ℕ) → Legal bundle_meaning (journal_in journals d)
  pub seen : SeenIsHeld (world_of journals [])
  pub written : HeldIsWritten (world_of journals [])
  pub rest : RestIsDone bundle_meaning (world_of journals [])

-- there are such journals
pub record IsManyDevices (devices : List DeviceValue) : Type 0 where
  pub journals : List Journal
  pub many : AreManyDevices journals devices
