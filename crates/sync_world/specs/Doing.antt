-- What a step makes of the devices and the links of a world, where it is made and where it is full.
use Rattle.std.specs.Prelude.{◌≡◌, ◌⊎◌, ℕ, zero, suc, ◌+◌, ◌-◌, ◌&&◌, not, Bool, true, false}
use Rattle.std.specs.Prelude.{if◌then◌else◌, List, [], drop}
use Rattle.std.specs.Prelude.{◌∷◌, ◌++◌, map, length, Option, Some, None, Result, Ok, Err}
use Rattle.std.specs.Prelude.{slice_get, slice_set}
use Rattle.std.specs.List.{list_any}
use Rattle.std.specs.Option.{option_map, option_to_list}
use Rattle.sync_ids.specs.Values.{GroupValue, MessageValue}
use Rattle.sync_ids.specs.Ids.{group_id_of, message_id_of}
use Rattle.sync_rules.specs.declared.entries.Entry.{Entry}
use Rattle.sync_rules.specs.declared.entries.Entry.TheVariants as entry
use Rattle.sync_rules.specs.declared.entries.Mode.{Mode}
use Rattle.sync_node.specs.declared.node.Plan.{Plan}
use Rattle.world_devices.specs.Devices.{DeviceValue}
use Rattle.world_devices.specs.Doing.{DeviceAddsEntry, DeviceBeginsSession, DeviceMakesTurn}
use Rattle.world_devices.specs.Doing.{DeviceRestarts, clocked, stopped, with_plan}
use Rattle.world_devices.specs.Linking.{DeviceLinksStand, is_link_asked, end_at}
use Rattle.world_devices.specs.declared.stop.Ran.{Ran}
use Rattle.world_devices.specs.declared.stop.StepFault.{StepFault}
use Rattle.world_devices.specs.declared.stop.StepFault.TheVariants as fault
use Rattle.world_laws.specs.Worlds.{contact_for}
use Rattle.world_links.specs.Ends.{EndValue, answer_to, input_of}
use Rattle.world_links.specs.Links.{side_end, left_by, side_of}
use Rattle.world_links.specs.declared.end.TheConstants.{PIECE_LEN}
use Rattle.world_links.specs.declared.link.Link.{Link}
use Rattle.world_links.specs.declared.moves.Side.{Side}
use Rattle.world_scripts.specs.Labels.{KindAndDescriptor, labelled}
use Rattle.world_scripts.specs.declared.step.TheConstants.{MAX_DEVICES}
use Rattle.world_scripts.specs.declared.step.WorldStep.{WorldStep}
use Rattle.world_scripts.specs.declared.step.WorldStep.TheVariants as step
use Rattle.sync_world.specs.Moving.{link_after_step}
use Rattle.sync_world.specs.Naming.{group_of, nonce_of}
use Rattle.sync_world.specs.Posting.{message_for}
use Rattle.sync_world.specs.Refusing.{group_labelled, has_links}
use Rattle.sync_world.specs.Shown.{link_arrived}
use Rattle.sync_world.specs.Staging.{after_ran, begun_with, new_link, with_end}
use Rattle.sync_world.specs.Turning.{is_moving, look_link}
use Rattle.sync_world.specs.declared.stage.Stage.{Stage}

-- the devices of a world, and the links between them
pub record Ground : Type 0 where
  pub devices : List DeviceValue
  pub links : List Link

abbrev pub ground_of : Stage → Ground
ground_of s = record { devices = s.devices.items; links = s.links.items }

-- ---- what is done, by what it comes to

-- what becomes of a world by calls that come to this: an answer, a crash of the device, or a fault
abbrev pub Becoming : Type 0 → Type 1
Becoming A = Result (Option A) StepFault → Ground → Ground → Type 0

-- nothing is done, and this is answered
abbrev pub Stays : {A : Type 0} → A → Becoming A
Stays a came old new = (came ≡ Ok (Some a)) × (new ≡ old)

-- one is done and then another one, which is not where the first is broken off by a crash or a
-- fault
abbrev pub Then : {A : Type 0} → Becoming A → (A → Becoming A) → Becoming A
Then {A} First Second came old new =
    ((between : Ground) × (a : A) × First (Ok (Some a)) old between × Second a came between new)
    ⊎ (((a : A) → came ≡ Ok (Some a) → ⊥) × First came old new)

-- one device becomes another, behind which the links are these; all other devices are as before
pub record DeviceDoes (d : ℕ) (Did : DeviceValue → DeviceValue → List Link → Type 0)
    (old new : Ground) : Type 0 where
  pub was : DeviceValue
  pub is : DeviceValue
  pub stands : slice_get old.devices d ≡ Some was
  pub did : Did was is new.links
  pub devices : new.devices ≡ slice_set old.devices d is

-- The links behind a call of a device that goes over them: what it sent is in flight, and is the
-- output of its sessions, by the journal that its files hold; one that crashed has its links no
-- more.
abbrev pub LinksBehind : {A : Type 0} → ℕ → DeviceValue → Result (Option A) StepFault → List Link
    → List Link → Type 0
LinksBehind d is (Ok (Some a)) old new = DeviceLinksStand is × (new ≡ map (look_link d is) old)
LinksBehind d is (Ok None) old new = new ≡ map (left_by d) old
LinksBehind d is (Err f) old new = new ≡ old

-- ---- entries

-- a device makes the call that adds an entry, where there is one, and the links are then these
abbrev pub AddsEntry : Option Entry → ℕ → Result Ran StepFault → List Link → Ground → Ground
    → Type 0
AddsEntry None d came links old new = ⊥
AddsEntry (Some e) d came links old new =
    DeviceDoes d (λ was is behind. DeviceAddsEntry e came was is × (behind ≡ links)) old new

-- a step of one entry: want of memory is free, but at most that entry was added then
abbrev pub AddsBy : Option Entry → ℕ → Result (Unit {0}) StepFault → Ground → Ground → Type 0
AddsBy e d (Ok _) old new =
    (came : Ran) × AddsEntry e d (Ok came) (after_ran came d old.links) old new
AddsBy e d (Err fault.Memory) old new =
    (new ≡ old) ⊎ ((came : Result Ran StepFault) × AddsEntry e d came old.links old new)
AddsBy e d (Err f) old new = AddsEntry e d (Err f) old.links old new

-- ---- a link

-- what the session of a device with another one is to be
abbrev pub plan_of : (d e : ℕ) → Mode → (latency : ℕ) → Plan
plan_of d e mode latency = record { contact = contact_for d e; mode = mode; latency = latency }

-- a link more, on which no session began
abbrev pub dialled : (d e : ℕ) → Ground → Ground
dialled d e old = record { devices = old.devices; links = old.links ++ new_link d e ∷ [] }

-- the links, on one of which the session of a device began that was answered
abbrev pub begun_on : (d link number : ℕ) → Result (Option ℕ) StepFault → List Link → List Link
begun_on d link number (Ok (Some session)) links =
    begun_with d number session link (slice_get links link) links
begun_on d link number _ links = links

-- a session of a device begins on the link of this number
abbrev pub Attaches : (d link : ℕ) → Plan → Option (List ℕ) → Becoming ℕ
Attaches d link plan nonce came old new =
    DeviceDoes d (λ was is links.
    DeviceBeginsSession plan nonce came was is
    × LinksBehind d is came (begun_on d link was.links came old.links) links) old new

-- a device dials another one, and both begin a session, first the one that dials
abbrev pub LinksTwo : (d e : ℕ) → Mode → (latency : ℕ) → Becoming ℕ
LinksTwo d e mode latency came old new =
    Then
    (Attaches d (length old.links) (plan_of d e mode latency) (nonce_of mode (length old.links)))
    (λ session. Attaches e (length old.links) (plan_of e d mode latency) None) came
    (dialled d e old) new

-- ---- a turn

-- an end that heard the next answer: all that it was given but what is left of its input then
abbrev pub heard_next : EndValue → EndValue
heard_next e = record e { heard = length e.given - length (drop PIECE_LEN (input_of e)) }

-- A device and an end of a link that has this number at its host, where it has one: what the end is
-- to hear is planned there, where the device still asks on the link; else both are as before.
abbrev pub hears_at_end : (is_cut : Bool) → DeviceValue → EndValue → Option ℕ
    → DeviceValue × EndValue
hears_at_end is_cut d e None = (d, e)
hears_at_end is_cut d e (Some a) =
    if is_link_asked (end_at d a)
    then (with_plan a (answer_to is_cut (input_of e)) d, heard_next e) else (d, e)

-- so of a link, at the side at which the device stands
abbrev pub hears_on_link : DeviceValue → Link → Option Side → DeviceValue × Link
hears_on_link d l None = (d, l)
hears_on_link d l (Some from) =
    let heard = hears_at_end l.is_cut d (side_end from l) (side_end from l).at in
    (heard.0, with_end from heard.1 l)

-- so of all links, in order
abbrev pub hears_on_links : (number : ℕ) → DeviceValue → List Link → DeviceValue × List Link
hears_on_links number d [] = (d, [])
hears_on_links number d (l ∷ ls) =
    let first = hears_on_link d l (side_of number l) in
    let rest = hears_on_links number first.0 ls in
    (rest.0, first.1 ∷ rest.1)

-- One turn of a device: one answer is heard on each of its links that is still asked, and all that
-- is due is sent. It answers whether all links were still.
abbrev pub TurnsOnce : ℕ → Becoming Bool
TurnsOnce d came old new =
    DeviceDoes d (λ was is links.
    let heard = hears_on_links d was old.links in
    DeviceMakesTurn came heard.0 is × LinksBehind d is came heard.1 links) old new

-- ---- rounds

-- a turn of a device that has had a link since it was started; another one is still
abbrev pub TurnsIf : (is_linked : Bool) → ℕ → Becoming Bool
TurnsIf true d = TurnsOnce d
TurnsIf false d = Stays true

abbrev pub TurnsLinked : ℕ → Becoming Bool
TurnsLinked d came old new = TurnsIf (has_links (slice_get old.devices d)) d came old new

-- the turns of so many devices from this one on, in order, behind turns that were still or not
abbrev pub TurnsFrom : (left d : ℕ) → (still : Bool) → Becoming Bool
TurnsFrom zero d still = Stays still
TurnsFrom (suc left) d still =
    Then (TurnsLinked d) (λ quiet. TurnsFrom left (d + 1) (still && quiet))

-- all that is in flight arrives, behind turns that were still or not
abbrev pub Arrives : (still : Bool) → Becoming Bool
Arrives still came old new =
    (came ≡ Ok (Some (still && not (list_any is_moving old.links))))
    × (new ≡ record old { links = map link_arrived old.links })

-- a round: a turn of each device, in order, and then all that is in flight arrives. It answers
-- whether it was quiet: each turn was still, and nothing was carried.
abbrev pub MakesRound : Becoming Bool
MakesRound = Then (TurnsFrom MAX_DEVICES 0 true) Arrives

-- at most so many rounds, behind one that was quiet or not; a quiet one is the last
abbrev pub RestsWithin : ℕ → (quiet : Bool) → Becoming Bool
RestsWithin zero quiet = Stays quiet
RestsWithin (suc rounds) true = Stays true
RestsWithin (suc rounds) false = Then MakesRound (RestsWithin rounds)

-- ---- steps

-- a step that this makes: it is made, or a call in it would pass the limit of a journal; want of
-- memory is free
abbrev pub MadeBy : {A : Type 0} → Becoming A → Result (Unit {0}) StepFault → Ground → Ground
    → Type 0
MadeBy {A} Does (Ok _) old new = (came : Option A) × Does (Ok came) old new
MadeBy Does (Err fault.Full) old new = Does (Err fault.Full) old new
MadeBy Does (Err _) old new = Unit {0}

-- a step that fills no journal: this is so where it is made
abbrev pub IfMade : Result (Unit {0}) StepFault → Type 0 → Type 0
IfMade (Ok _) Made = Made
IfMade (Err fault.Full) Made = ⊥
IfMade (Err _) Made = Unit {0}

-- a link becomes this; where there is none the step is refused
abbrev pub LinkBecomes : ℕ → Option Link → Result (Unit {0}) StepFault → Ground → Ground → Type 0
LinkBecomes link (Some l) (Ok _) old new = new ≡ record old { links = slice_set old.links link l }
LinkBecomes link None (Err fault.Refused) old new = new ≡ old
LinkBecomes link _ (Err fault.Memory) old new = new ≡ old
LinkBecomes link _ _ old new = ⊥

-- what a step that answers so makes of the devices and the links
abbrev pub MakesStep : WorldStep → Result (Unit {0}) StepFault → Stage → Ground → Type 0
MakesStep (step.Group d kind descriptor) came s new =
    AddsBy (option_map (λ (def : GroupValue). entry.Group def) (group_of kind descriptor)) d came
    (ground_of s) new
MakesStep (step.Share d e group level) came s new =
    AddsBy
    (option_map (λ (def : GroupValue). entry.Level (contact_for d e) (group_id_of def) level)
    (group_labelled (slice_get s.groups group))) d came (ground_of s) new
MakesStep (step.Post d group time parents text) came s new =
    AddsBy
    (option_map (λ (m : MessageValue). entry.Author m)
    (message_for s.groups s.posts.items group time parents text)) d came (ground_of s) new
MakesStep (step.Link d e mode latency) came s new =
    MadeBy (LinksTwo d e mode latency) came (ground_of s) new
MakesStep (step.Turn d) came s new = MadeBy (TurnsOnce d) came (ground_of s) new
MakesStep (step.Clock at) came s new =
    IfMade came ((new.devices ≡ map (clocked at) s.devices.items) × (new.links ≡ s.links.items))
MakesStep (step.Stop d calls pick) came s new =
    IfMade came
    (DeviceDoes d (λ was is links. (is ≡ stopped calls pick was) × (links ≡ s.links.items))
    (ground_of s) new)
MakesStep (step.Restart d) came s new =
    IfMade came
    (DeviceDoes d (λ was is links.
    DeviceRestarts (Ok tt) was is × (links ≡ map (left_by d) s.links.items)) (ground_of s) new)
MakesStep (step.Rest rounds) came s new = MadeBy (RestsWithin rounds false) came (ground_of s) new
MakesStep made came s new =
    LinkBecomes (link_after_step made s.links.items).0 (link_after_step made s.links.items).1 came
    (ground_of s) new

-- the group labels after a step: a group has a label from the first step on that added it
abbrev pub labels_after : WorldStep → List KindAndDescriptor → List KindAndDescriptor
labels_after (step.Group d kind descriptor) groups = labelled (kind, descriptor) groups
labels_after _ groups = groups

-- the ids of the posts after a step: a post has the next label, also where its device crashed in it
abbrev pub posts_after : WorldStep → List KindAndDescriptor → List (List ℕ) → List (List ℕ)
posts_after (step.Post d group time parents text) groups posts =
    posts ++ option_to_list
    (option_map message_id_of (message_for groups posts group time parents text))
posts_after _ groups posts = posts

-- a step was made
pub record WasDone (made : WorldStep) (old new : Stage) : Type 0 where
  pub does : MakesStep made (Ok tt) old (ground_of new)
  pub groups : new.groups ≡ labels_after made old.groups
  pub posts : new.posts.items ≡ posts_after made old.groups old.posts.items

-- What a step does that answers so: it was made as the rules of worlds have it; or a device in it
-- would have passed the limit of its journal; after a refusal all is as before (`IsSame`); want of
-- memory is free, but at most the entry of a step is added then, and a move or a cut changes
-- nothing.
abbrev pub DoesBy : WorldStep → Result (Unit {0}) StepFault → Stage → Stage → Type 0
DoesBy made (Ok _) old new = WasDone made old new
DoesBy made (Err fault.Refused) old new = Unit {0}
DoesBy made (Err f) old new = MakesStep made (Err f) old (ground_of new)
