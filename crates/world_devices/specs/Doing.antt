-- What calls of a device do: the entry that stands in its journal, a turn, and where a stop of its
-- disk leads.
use Rattle.std.specs.Prelude.{◌≡◌, ◌≢◌, ◌⊎◌, ℕ, ◌+◌, ◌*◌, ◌<◌, ◌≤◌, ◌^◌, Bool, true, false, slice_get}
use Rattle.std.specs.Prelude.{if◌then◌else◌, nat_lt, List, [], ◌∷◌, ◌++◌, length, Option, Some}
use Rattle.std.specs.Prelude.{IfSome, IsSomeAnd, None, Result, Ok, Err}
use Rattle.std.specs.Option.{option_map}
use Rattle.outside.specs.Files.{Two, IsImage}
use Rattle.outside.specs.HostTold.{host_told}
use Rattle.outside.specs.Links.{Planned}
use Rattle.std.specs.Prelude.{replicate}
use Rattle.std.specs.List.{AllByRecursion}
use Rattle.outside.specs.Calls.{CallsGoOn}
use Rattle.outside.specs.Changes.{Change}
use Rattle.outside.specs.Disk.{RelatesTold}
use Rattle.outside.specs.Made.{BreaksIn}
use Rattle.outside.specs.MemDisk.{MemDiskValue, calls_of, disk_files, files_of}
use Rattle.outside.specs.MemHost.{MemHostValue, reading_set, script_of, with_script}
use Rattle.outside.specs.MemImage.{PicturesDisk}
use Rattle.outside.specs.Outside.{MakesAtMost, Outside}
use Rattle.outside.specs.declared.pick.Pick.{Pick}
use Rattle.client_basic.specs.Bodies.{bundle_meaning}
use Rattle.entry_codec.specs.Standing.{journal}
use Rattle.file_standing.specs.Standing.{stands}
use Rattle.sync_rules.specs.declared.entries.Entry.{Entry}
use Rattle.sync_rules.specs.declared.entries.Entry.TheVariants as entry
use Rattle.sync_rules.specs.declared.entries.Session.{Session}
use Rattle.sync_rules.specs.Facts.{Journal, after_all, facts}
use Rattle.sync_rules.specs.Hearing.{SettlesJournal}
use Rattle.sync_rules.specs.Legal.{AllSettling}
use Rattle.sync_rules.specs.Steps.{IsSettled}
use Rattle.frame_journal.specs.Appends.{AreFrames, appends}
use Rattle.sync_store.specs.Asking.{LooksBehind, barrier_calls}
use Rattle.sync_store.specs.Store.{StoreValue}
use Rattle.sync_store.specs.Commits.{needed}
use Rattle.sync_store.specs.Fitting.{FitsFiles}
use Rattle.sync_node.specs.Adding.{AddsAtMost, AddsOne, AddsWithin}
use Rattle.sync_course.specs.Links as course_links
use Rattle.sync_course.specs.Turns.{Attaches, Between, Place, Terms, is_at_end}
use Rattle.sync_course.specs.declared.ends.LinkEnd.TheVariants as link_end
use Rattle.sync_node.specs.Courses.{AllRead, BreaksBeginning, BreaksTurn, MakesTurn, RunRuns}
use Rattle.sync_node.specs.Courses.{place_at}
use Rattle.sync_node.specs.Fulls.{RunFull}
use Rattle.sync_node.specs.Node.{NodeValue}
use Rattle.sync_node.specs.Output.{output, sent_on}
use Rattle.sync_node.specs.Plans.{session_of}
use Rattle.sync_node.specs.declared.node.Plan.{Plan}
use Rattle.world_devices.specs.Devices.{DeviceValue, HostGoesOn, IsAnew}
use Rattle.world_devices.specs.Keeping.{AfterCrash, LeavesSome, StandsForSome}
use Rattle.world_devices.specs.Linking.{IsUnlinked}
use Rattle.world_devices.specs.Running.{HoldsAfterCrash}
use Rattle.world_devices.specs.declared.stop.Ran.{Ran}
use Rattle.world_devices.specs.declared.stop.Ran.TheVariants as ran
use Rattle.world_devices.specs.declared.stop.Stop.{Stop}
use Rattle.world_devices.specs.declared.stop.StepFault.{StepFault}
use Rattle.world_devices.specs.declared.stop.StepFault.TheVariants as fault

-- ---- what stays

-- the call at which the disk of a host is to stop was not made yet
abbrev pub IsAhead : Option Stop → MemHostValue → Type 0
IsAhead stop host = IfSome stop (λ armed. host.disk.made ≤ armed.call)

-- the same time, and the same stop, which did not fall; what its disk is to fail stays
pub record KeepsOwn (old new : DeviceValue) : Type 0 where
  pub clock : new.clock ≡ old.clock
  pub stop : new.stop ≡ old.stop
  pub since : HostGoesOn old.host new.host
  pub ahead : IsAhead new.stop new.host

-- ---- a device that starts again

-- whatever a crash leaves of the files of a host stands for one journal that has this, which is
-- settled
pub record HoldsSettled (Has : Journal → Type 0) (host : MemHostValue) : Type 0 where
  pub whole : Journal
  pub has : Has whole
  pub settled : IsSettled bundle_meaning (facts whole)
  pub holds : HoldsAfterCrash whole host

-- it is this journal with settling behind it
abbrev pub SettlesFrom : Journal → MemHostValue → Type 0
SettlesFrom j host = HoldsSettled (SettlesJournal bundle_meaning j) host

-- files that a crash might have left of this host, or what came of these by settling
pub record ComesOfImage (at : MemHostValue) (files : Two (List ℕ)) : Type 0 where
  pub before : Two (List ℕ)
  pub image : IsImage (files_of (disk_files at.disk)) before
  pub settles : (j : Journal) → stands bundle_meaning before ≡ journal j → StandsForSome
      (SettlesJournal bundle_meaning j) files

-- so is whatever a crash leaves of the files of another host
abbrev pub ComesOf : MemHostValue → MemHostValue → Type 0
ComesOf at host = AfterCrash (ComesOfImage at) (host_told host)

-- Settling behind this journal came there by no more than so many calls of the disk, and four for
-- each of some settling batches.
pub record SettlesWithin (calls : ℕ) (j : Journal) (old new : Outside) : Type 0 where
  pub more : Journal
  pub settling : AllSettling bundle_meaning (facts j) more
  pub most : MakesAtMost (calls + 4 * length more) old new

-- as many calls as the load of this journal takes at most
abbrev pub load_calls : Journal → ℕ
load_calls j = 2 * length j + 7

-- the calls of the disk that a load of this journal makes
abbrev pub loading : Journal → List (Option Change)
loading j = barrier_calls ++ replicate (2 * length j + 4) None

-- The disk failed in an append of settling, behind a whole load of this journal.
pub record BreaksSettling (j : Journal) (old new : Outside) : Type 0 where
  pub file : ℕ
  pub end : ℕ
  pub added : List (List ℕ)
  pub frames : AllByRecursion AreFrames added
  pub breaks : BreaksIn (loading j ++ appends file end added) old new

-- The disk failed in a start over this journal: in the barrier, in a call behind it that only looks, or in settling.
abbrev pub StartBreaks : Journal → Outside → Outside → Type 0
StartBreaks j old new =
    BreaksIn barrier_calls old new
    ⊎ ((RelatesTold LooksBehind old.calls new.calls × MakesAtMost (load_calls j) old new)
    ⊎ BreaksSettling j old new)

-- the disk of a host failed in a start over what it held
abbrev pub StartCut : MemHostValue → MemHostValue → Type 0
StartCut old at =
    (j : Journal) → HoldsAfterCrash j old → StartBreaks j (host_told old) (host_told at)

-- A host was settled as far as that had come: behind its calls of before no more were made of its
-- disk than that takes, and a crash may leave what it might have left before, or what came of that
-- by settling.
pub record Settles (most : Journal → ℕ) (old new : MemHostValue) : Type 0 where
  pub calls : HostGoesOn old new
  pub left : ComesOf old new
  pub within : (j : Journal) → HoldsAfterCrash j old → SettlesWithin (most j) j (host_told old)
      (host_told new)

-- A device was started again over this image of the files of a host: what the image stands for was settled. It has no links, and
-- no stop is left.
pub record CrashesTo (pick : Pick) (at : MemHostValue) (new : DeviceValue) : Type 0 where
  pub image : MemDiskValue
  pub pictured : PicturesDisk pick (disk_files at.disk) image
  pub since : CallsGoOn (calls_of image) (calls_of new.host.disk)
  pub loads : (j : Journal) → stands bundle_meaning image.start ≡ journal j → SettlesFrom j new.host
  pub anew : IsAnew new.clock new.host
  pub unlinked : IsUnlinked new
  pub disarmed : new.stop ≡ None

-- the last call of the disk was the one that this stop names, and the device was started again over the image that it names
pub record FallsAtStop (stop : Option Stop) (at : MemHostValue) (new : DeviceValue) : Type 0 where
  pub armed : Stop
  pub is : stop ≡ Some armed
  pub fell : armed.call + 1 ≡ at.disk.made
  pub crashes : CrashesTo armed.pick at new

-- a call was broken off by the stop of the device: until then it had come, by calls behind those of before, to a host of which this
-- holds
pub record StopsIn (Broken : MemHostValue → Type 0) (old new : DeviceValue) : Type 0 where
  pub at : MemHostValue
  pub since : HostGoesOn old.host at
  pub broken : Broken at
  pub off : FallsAtStop old.stop at new
  pub clock : new.clock ≡ old.clock

-- A call found no memory: it had come, by calls behind those of before, to a host of which this holds, and a
-- crash may leave of the files what it might have left then, or what came of that by settling.
pub record GivesUp (Broken : MemHostValue → Type 0) (old new : DeviceValue) : Type 0 where
  pub at : MemHostValue
  pub since : HostGoesOn old.host at
  pub broken : Broken at
  pub left : ComesOf at new.host

-- ---- a call of its node

-- What came of it: it was done, with this answer, or the journal is full. Or it was broken off by
-- the stop of the disk, or for want of memory, where it may have been done too. `Broken` asks first
-- whether its disk failed.
abbrev pub DeviceCalls : {A : Type 0} → (Done : A → Type 0)
    → (Broken : (disk : Bool) → MemHostValue → Type 0) → (Full : Type 0)
    → Result (Option A) StepFault → DeviceValue → DeviceValue → Type 0
DeviceCalls Done Broken Full (Ok (Some a)) old new = KeepsOwn old new × Done a
DeviceCalls Done Broken Full (Ok None) old new = StopsIn (Broken true) old new
DeviceCalls Done Broken Full (Err fault.Refused) old new = new ≡ old
DeviceCalls Done Broken Full (Err fault.Full) old new = Full
DeviceCalls {A} Done Broken Full (Err fault.Memory) old new =
    ((new ≡ old) ⊎ GivesUp (λ at. (disk : Bool) × Broken disk at) old new) ⊎ (HostGoesOn old.host new.host × ((a : A) × Done a))

-- ---- an entry

-- of a device that runs before and after a call
abbrev pub OfNodes : (NodeValue → NodeValue → Type 0) → Option NodeValue → Option NodeValue → Type 0
OfNodes P (Some n) (Some n') = P n n'
OfNodes P _ _ = ⊥

-- all but its journal is as it was: the links of its node, and what its host tells of links and time
pub record KeepsRest (old new : DeviceValue) : Type 0 where
  pub node : option_map (λ (n : NodeValue). n.links) new.node ≡ option_map (λ (n : NodeValue). n.links) old.node
  pub told : (host_told new.host).links ≡ (host_told old.host).links

-- Adding it came there: at most the entry, with settling behind it, stands in a journal that was
-- held, and no more calls of the disk were made than four for its batch and for each settling
-- batch; which, is said by whether the disk failed.
abbrev pub CameAdding : Entry → Option NodeValue → MemHostValue → (disk : Bool) → MemHostValue → Type 0
CameAdding e node h disk at =
    ((j : Journal) → HoldsAfterCrash j h
    → LeavesSome (AddsAtMost bundle_meaning j (e ∷ [])) (host_told at))
    × IsSomeAnd node (λ n. AddsWithin bundle_meaning disk (e ∷ []) n.store (host_told h) (host_told at))

-- a call that answers Done, or that it crashed
abbrev pub if_done : Result Ran StepFault → Result (Option (Unit {0})) StepFault
if_done (Ok ran.Done) = Ok (Some tt)
if_done (Ok ran.Crashed) = Ok None
if_done (Err e) = Err e

-- An entry is added: it stands in the journal, with settling behind it, and nothing else was done.
-- Where the stop fell in it, at most that stood in the files when the disk failed; so it is where
-- it found no memory. It is full where the journal would pass its limit, and then its host is as
-- before.
abbrev pub DeviceAddsEntry : Entry → Result Ran StepFault → DeviceValue → DeviceValue → Type 0
DeviceAddsEntry e r old new =
    DeviceCalls (λ done. ((j : Journal) → HoldsAfterCrash j old.host
    → HoldsSettled (AddsOne bundle_meaning j (e ∷ [])) new.host) × KeepsRest old new)
    (CameAdding e old.node old.host)
    (IsSomeAnd old.node (λ n. n.store.limit < needed n.store (e ∷ [])) × (new.host ≡ old.host))
    (if_done r) old new

-- ---- links

-- A call led from this place to one from which the next step commits a batch with which the journal
-- would pass its limit; and each link that has not failed there has sent all output of its session,
-- by whatever journal fits the store then.
pub record FullSent (terms : Terms) (p : Place) (n : NodeValue) (store : StoreValue)
    (h h' : MemHostValue) : Type 0 where
  pub full : RunFull bundle_meaning terms p n.store store (host_told h) (host_told h')
  pub sent : (i : ℕ) (l : course_links.Link) → slice_get full.to.links i ≡ Some l
      → l.stands ≢ link_end.Failed → (whole : Journal)
      → FitsFiles bundle_meaning store whole (files_of (disk_files h'.disk))
      → sent_on (host_told h').links i ≡ output whole (n.first + i)

-- the next session of a node, by its plan
abbrev pub next_session : Plan → Option (List ℕ) → NodeValue → Session
next_session plan its_nonce n = session_of n.store.state.facts.begun plan its_nonce

-- The next session began on the next link, on which nothing was heard, and greeted there, as a
-- course has it; it stands in the journal.
pub record HasBegunOnLink (plan : Plan) (its_nonce : Option (List ℕ)) (session : ℕ)
    (h h' : MemHostValue) (n n' : NodeValue) : Type 0 where
  pub number : session ≡ n.store.state.facts.begun
  pub on_next : session ≡ n.first + length n.links
  pub same_first : n'.first ≡ n.first
  pub has_read : (heard : ℕ → List ℕ) → heard (length n.links) ≡ [] → AllRead heard n.links
      → AllRead heard n'.links
  pub runs : (terms : Terms) (left : List Session) (heard : ℕ → List ℕ) (moved : Bool)
      (still made : ℕ) → terms.first ≡ n.first → heard (length n.links) ≡ []
      → RunRuns bundle_meaning terms
      (place_at (Attaches (next_session plan its_nonce n ∷ left)) n.links heard moved still made
      n.store.state.facts)
      (place_at (Attaches left) n'.links heard moved still made n'.store.state.facts) n.store
      n'.store (host_told h) (host_told h')
  pub facts_are : n'.store.state.facts ≡ after_all n.store.state.facts
      (entry.Session (next_session plan its_nonce n) ∷ [])

-- the session's batch, which was next, would pass the limit of the journal
pub record FullAtBeginning (plan : Plan) (its_nonce : Option (List ℕ)) (h h' : MemHostValue)
    (n : NodeValue) : Type 0 where
  pub store : StoreValue
  pub limit : store.limit ≡ n.store.limit
  pub fills : (terms : Terms) (left : List Session) (heard : ℕ → List ℕ) (moved : Bool)
      (still made : ℕ)
      → FullSent terms (place_at (Attaches (next_session plan its_nonce n ∷ left)) n.links heard
      moved still made n.store.state.facts) n store h h'

-- A session begins on a link. Where it was broken off it had come to some place of a course, by no
-- more calls of the disk than the batches of its path take and those that were next.
abbrev pub DeviceBeginsSession : Plan → Option (List ℕ) → Result (Option ℕ) StepFault → DeviceValue
    → DeviceValue → Type 0
DeviceBeginsSession plan its_nonce r old new =
    DeviceCalls (λ session.
    OfNodes (HasBegunOnLink plan its_nonce session old.host new.host) old.node new.node)
    (λ disk at.
    IsSomeAnd old.node (λ n. BreaksBeginning bundle_meaning disk (next_session plan its_nonce n) n.links
    n.store (host_told old.host) (host_told at)))
    (IsSomeAnd old.node (FullAtBeginning plan its_nonce old.host new.host)) r old new

-- one turn of a course was made, in which all was still or not
pub record HasTurned (still : Bool) (h h' : MemHostValue) (n n' : NodeValue) : Type 0 where
  pub same_first : n'.first ≡ n.first
  pub turn : MakesTurn bundle_meaning n.first n.links n'.links n.store n'.store (host_told h) (host_told h') still

-- a turn came to where the batch that was next would pass the limit of the journal
pub record FullInTurn (h h' : MemHostValue) (n : NodeValue) : Type 0 where
  pub store : StoreValue
  pub limit : store.limit ≡ n.store.limit
  pub fills : (terms : Terms) (heard : ℕ → List ℕ) (moved : Bool) (still made : ℕ)
      → terms.first ≡ n.first → AllRead heard n.links
      → is_at_end terms (place_at Between n.links heard moved still made n.store.state.facts)
      ≡ false
      → FullSent terms (place_at Between n.links heard moved still made n.store.state.facts) n store
      h h'

-- a turn of a course; where it was broken off the same holds as of a session
abbrev pub DeviceMakesTurn : Result (Option Bool) StepFault → DeviceValue → DeviceValue → Type 0
DeviceMakesTurn r old new =
    DeviceCalls (λ still. OfNodes (HasTurned still old.host new.host) old.node new.node)
    (λ disk at.
    IsSomeAnd old.node (λ n. BreaksTurn bundle_meaning disk n.first n.links n.store
    (host_told old.host) (host_told at)))
    (IsSomeAnd old.node (FullInTurn old.host new.host)) r old new

-- ---- a host that is told something

-- a device after its link of this number was told what to answer next; one that it has not had is left
abbrev pub with_plan : ℕ → List Planned → DeviceValue → DeviceValue
with_plan link plan d =
    if nat_lt link d.links
    then record d { host = record d.host { scripts = with_script link (script_of link d.host.scripts ++ plan) d.host.scripts } } else d

-- a device after its clock was set
abbrev pub clocked : ℕ → DeviceValue → DeviceValue
clocked at d = record d { host = record d.host { clock = reading_set at d.host.clock }; clock = at }

-- where the disk of a device is to stop: so many calls from now on, where the disk counts as far
abbrev pub stop_after : ℕ → Pick → ℕ → Option Stop
stop_after calls pick made = if nat_lt (made + calls) (2 ^ 64) then Some (record { call = made + calls; pick = pick }) else None

-- the calls that are to fail then
abbrev pub failing_by : Option Stop → List ℕ
failing_by None = []
failing_by (Some stop) = stop.call ∷ []

-- a device with this stop in place of an earlier one
abbrev pub with_stop : Option Stop → DeviceValue → DeviceValue
with_stop stop d = record d { host = record d.host { disk = record d.host.disk { failing = failing_by stop; stop = None } }; stop = stop }

abbrev pub stopped : ℕ → Pick → DeviceValue → DeviceValue
stopped calls pick d = with_stop (stop_after calls pick d.host.disk.made) d

-- ---- a restart

-- it was started again over its files, which were settled, and has no links
pub record StartsAgain (old new : DeviceValue) : Type 0 where
  pub own : KeepsOwn old new
  pub anew : IsAnew new.clock new.host
  pub unlinked : IsUnlinked new
  pub loads : (j : Journal) → HoldsAfterCrash j old.host → SettlesFrom j new.host

-- some settling behind a journal that was held had come there, by no more calls of the disk than a
-- start over such a journal takes
abbrev pub CameStarting : DeviceValue → MemHostValue → Type 0
CameStarting old at =
    (j : Journal) → HoldsAfterCrash j old.host
    → LeavesSome (SettlesJournal bundle_meaning j) (host_told at)
    × SettlesWithin (load_calls j) j (host_told old.host) (host_told at)

-- It starts again. Where its disk stopped in that, settling had come so far as it had, by the calls up to the one that failed, and it
-- starts once more.
abbrev pub DeviceRestarts : Result (Unit {0}) StepFault → DeviceValue → DeviceValue → Type 0
DeviceRestarts (Ok _) old new =
    StartsAgain old new ⊎ StopsIn (λ at. CameStarting old at × StartCut old.host at) old new
DeviceRestarts (Err fault.Memory) old new = GivesUp (CameStarting old) old new
DeviceRestarts (Err _) old new = ⊥
