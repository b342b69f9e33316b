-- Worlds and their steps, and what the theorem of many devices says of a world.
use Rattle.std.proofs.Common.{◌≡◌, ℕ, zero, suc, ◌+◌, ◌<◌, ◌≤◌, Bool, false, List, [], ◌∷◌, ◌++◌}
use Rattle.std.proofs.Common.{length, refl, sym, ◌∙◌, ap, subst, arith, Option, Some, None, Result}
use Rattle.std.proofs.Common.{Ok, Err}
use Rattle.std.specs.Prelude.{slice_get}
use Rattle.std.specs.List.{AllByRecursion}
use Rattle.client_basic.specs.Bodies.{bundle_meaning}
use Rattle.sync_rules.specs.Clients.{Meaning}
use Rattle.world_laws.specs.Theorem.{HeldIsWritten, IsNewWorld, IsSoundWorld, RestIsDone}
use Rattle.world_laws.specs.Theorem.{SeenIsHeld}
use Rattle.sync_rules.specs.Facts.{Journal, facts}
use Rattle.world_laws.specs.Worlds.{AreSteps, World, journal_at, journal_in, last_of}
use Rattle.world_devices.specs.Devices.{DeviceValue}
use Rattle.world_devices.specs.Linking.{IsNewDevice, IsUnlinked, new_journal}
use Rattle.world_devices.proofs.NewJournals.{new_holds, new_knows, new_plain}
use Rattle.world_links.specs.declared.link.Link.{Link}
use Rattle.world_devices.specs.declared.stop.StepFault.{StepFault}
use Rattle.world_devices.specs.declared.stop.StepFault.TheVariants as fault
use Rattle.sync_world.specs.Moving.{fault_after}
use Rattle.sync_world.specs.Shown.{IsNewJournal, world_of}
use Rattle.sync_world.specs.Standing.{AllLinksStand, AreUp, LeadsFromShown, IsManyDevices, IsShown}
use Rattle.sync_world.specs.Standing.{IsUp, IsWorld, LeadsOn, is_fatal, is_harmed}
use Rattle.sync_world.specs.declared.stage.Stage.{Stage}
use Rattle.sync_world.proofs.FirstLaws.{first_new}
use Rattle.sync_world.proofs.GoLaws.{leads_then, same_leads, unlinked_wired}
use Rattle.sync_world.proofs.ToldLaws.{told_of}
use Rattle.sync_world.proofs.WireLaws.{some_same}

harmed_after : (result : Result (Unit {0}) StepFault)
    → is_harmed (fault_after result) ≡ is_fatal result
harmed_after (Ok u) = refl
harmed_after (Err fault.Refused) = refl
harmed_after (Err fault.Full) = refl
harmed_after (Err fault.Memory) = refl

-- as many devices as before, each of which had these contacts
contacts_on : (devices devices' : List DeviceValue) (start : World)
    → length devices' ≡ length devices
    → ((d : ℕ) → d < length devices → length devices ≤ (facts (journal_at start d)).contacts + 1)
    → (d : ℕ) → d < length devices' → length devices' ≤ (facts (journal_at start d)).contacts + 1
contacts_on devices devices' start same each d within =
    let had : length devices ≤ (facts (journal_at start d)).contacts + 1 =
    each d (omega (arith, same, within)) in
    omega (arith, same, had)

world_made : (old new : Stage) (result : Result (Unit {0}) StepFault) → IsWorld old
    → old.fault ≡ None → LeadsFromShown (is_fatal result) old new → new.fault ≡ fault_after result
    → (is_fatal result ≡ false → length new.devices.items ≡ length old.devices.items) → IsWorld new
world_made old new result is none goes after count =
    let stands : LeadsOn is.start false old.devices.items old.links.items =
    subst (λ (f : Option StepFault).
    LeadsOn is.start (is_harmed f) old.devices.items old.links.items) none is.stands in
    let leads : LeadsOn is.start (is_fatal result) new.devices.items new.links.items =
    leads_then is.start (is_fatal result) old.devices.items new.devices.items old.links.items
    new.links.items stands goes in
    let fatal : is_harmed new.fault ≡ is_fatal result = ap is_harmed after ∙ harmed_after result in
    record {
      start = is.start;
      new = is.new;
      stands = subst (λ (b : Bool). LeadsOn is.start b new.devices.items new.links.items)
          (sym fatal) leads;
      contacts = λ unharmed.
          contacts_on old.devices.items new.devices.items is.start (count (sym fatal ∙ unharmed))
          (is.contacts (ap is_harmed none));
    }

-- a step leaves a world, whatever it answers
pub world_steps : (old new : Stage) (result : Result (Unit {0}) StepFault) → IsWorld old
    → (old.fault ≡ None → LeadsFromShown (is_fatal result) old new)
    → (old.fault ≡ None → new.fault ≡ fault_after result)
    → ((f : StepFault) → old.fault ≡ Some f → (result ≡ Err f) × (new ≡ old))
    → (old.fault ≡ None → is_fatal result ≡ false
    → length new.devices.items ≡ length old.devices.items) → IsWorld new
world_steps old new result is goes after for_good count =
    elim old.fault as (λ o. old.fault ≡ o → IsWorld new) [
      | None ↦ λ none. world_made old new result is none (goes none) (after none) (count none)
      | Some f ↦ λ some. subst (λ (s : Stage). IsWorld s) (sym (for_good f some).1) is
    ] refl

-- what the theorem says of a world
pub many_of : ((clients : Meaning) (w : World) (worlds : List World) → IsNewWorld clients w
    → AreSteps clients w worlds → IsSoundWorld clients (last_of w worlds))
    → ((clients : Meaning) (w : World) (worlds : List World) → IsNewWorld clients w
    → AreSteps clients w worlds → SeenIsHeld (last_of w worlds))
    → ((clients : Meaning) (w : World) (worlds : List World) → IsNewWorld clients w
    → AreSteps clients w worlds → HeldIsWritten (last_of w worlds))
    → ((clients : Meaning) (w : World) (worlds : List World) → IsNewWorld clients w
    → AreSteps clients w worlds → RestIsDone clients (last_of w worlds))
    → (s : Stage) → IsWorld s → AllLinksStand s.devices.items → IsManyDevices s.devices.items
many_of sound seen written rest s is stand =
    let r = is.stands.reached in
    let all : IsSoundWorld bundle_meaning is.stands.after =
    subst (IsSoundWorld bundle_meaning) r.last
    (sound bundle_meaning is.start r.worlds is.new r.steps) in
    let holds : SeenIsHeld is.stands.after =
    subst SeenIsHeld r.last (seen bundle_meaning is.start r.worlds is.new r.steps) in
    let wrote : HeldIsWritten is.stands.after =
    subst HeldIsWritten r.last (written bundle_meaning is.start r.worlds is.new r.steps) in
    let done : RestIsDone bundle_meaning is.stands.after =
    subst (RestIsDone bundle_meaning) r.last
    (rest bundle_meaning is.start r.worlds is.new r.steps) in
    record {
      journals = is.stands.after.journals;
      many = record {
        read = is.stands.read;
        told = told_of is.stands.after.journals s.devices.items is.stands.read stand;
        legal = all.legal;
        seen = holds;
        written =
            λ d id h held. let by = wrote d id h held in record { device = by.device; by = by.by };
        rest = done;
      };
    }

-- ---- a new world

-- the journals of new devices with so many contacts
pub record Begun (contacts : ℕ) (devices : List DeviceValue) : Type 0 where
  pub journals : List Journal
  pub new : AllByRecursion (IsNewJournal bundle_meaning) journals
  pub up : AreUp journals devices
  pub unlinked : (d : ℕ) (device : DeviceValue) → slice_get devices d ≡ Some device
      → IsUnlinked device
  pub known : (d : ℕ) → d < length devices → (facts (journal_in journals d)).contacts ≡ contacts

up_more : (j : Journal) (js : List Journal) (x : DeviceValue) (xs : List DeviceValue) → IsUp j x
    → AreUp js xs → (d : ℕ) (device : DeviceValue) → slice_get (x ∷ xs) d ≡ Some device
    → IsUp (journal_in (j ∷ js) d) device
up_more j js x xs one up zero device is = subst (IsUp j) (some_same x device is) one
up_more j js x xs one up (suc d) device is = up.each d device is

unlinked_more : (x : DeviceValue) (xs : List DeviceValue) → IsUnlinked x
    → ((d : ℕ) (device : DeviceValue) → slice_get xs d ≡ Some device → IsUnlinked device)
    → (d : ℕ) (device : DeviceValue)
    → slice_get (x ∷ xs) d ≡ Some device → IsUnlinked device
unlinked_more x xs one all zero device is = subst IsUnlinked (some_same x device is) one
unlinked_more x xs one all (suc d) device is = all d device is

known_more : (contacts : ℕ) (j : Journal) (js : List Journal) (x : DeviceValue)
    (xs : List DeviceValue) → (facts j).contacts ≡ contacts
    → ((d : ℕ) → d < length xs → (facts (journal_in js d)).contacts ≡ contacts) → (d : ℕ)
    → d < length (x ∷ xs) → (facts (journal_in (j ∷ js) d)).contacts ≡ contacts
known_more contacts j js x xs one all zero within = one
known_more contacts j js x xs one all (suc d) within = all d (omega (arith, within))

begun : (contacts clock : ℕ) (devices : List DeviceValue) → AllByRecursion
    (IsNewDevice contacts clock) devices → Begun contacts devices
begun contacts clock [] all =
    record {
      journals = [];
      new = tt;
      up = record { same_number = refl; each = λ d device is. cc };
      unlinked = λ d device is. cc;
      known = λ d within. absurd (omega (arith, within));
    }
begun contacts clock (x ∷ xs) all =
    let one = all.0 in
    let rest = begun contacts clock xs all.1 in
    let whole : Journal = new_journal contacts in
    let up : IsUp whole x =
    record {
      runs = one.runs;
      holds = one.holds;
      legal = one.legal;
      numbered = one.unlinked.unlinked ∙ ap (λ (n : ℕ). Some n) (sym one.unlinked.none);
    } in
    record {
      journals = whole ∷ rest.journals;
      new = (
        record { legal = one.legal; plain = new_plain contacts; empty = new_holds contacts },
        rest.new,
      );
      up = record {
        same_number = ap suc rest.up.same_number;
        each = up_more whole rest.journals x xs up rest.up;
      };
      unlinked = unlinked_more x xs one.unlinked rest.unlinked;
      known = known_more contacts whole rest.journals x xs (new_knows contacts) rest.known;
    }

-- new devices without links are a world
pub begun_world : (contacts clock : ℕ) (s : Stage) → AllByRecursion
    (IsNewDevice contacts clock) s.devices.items → s.links.items ≡ []
    → length s.devices.items ≤ contacts + 1 → IsWorld s
begun_world contacts clock s all unlinked count =
    let b = begun contacts clock s.devices.items all in
    let shown : IsShown (world_of b.journals []) s.devices.items [] =
    record {
      up = b.up;
      shown = tt;
      placed = λ i l is. cc;
      wired = λ d device is.
          unlinked_wired (journal_in b.journals d) d device [] (b.unlinked d device is)
          (λ i l there. cc);
    } in
    record {
      start = world_of b.journals [];
      new = first_new bundle_meaning b.journals b.new;
      stands =
          subst (λ (ls : List Link).
          LeadsOn (world_of b.journals []) (is_harmed s.fault) s.devices.items ls)
          (sym unlinked)
          (same_leads (world_of b.journals []) (is_harmed s.fault) s.devices.items [] shown);
      contacts = λ unharmed d within. let known : (facts (journal_in b.journals d)).contacts
          ≡ contacts = b.known d within in omega (arith, known, count);
    }

pub all_one_more : (contacts clock : ℕ) (xs : List DeviceValue) (x : DeviceValue) → AllByRecursion
    (IsNewDevice contacts clock) xs → IsNewDevice contacts clock x
    → AllByRecursion (IsNewDevice contacts clock) (xs ++ x ∷ [])
all_one_more contacts clock [] x all one = (one, tt)
all_one_more contacts clock (y ∷ xs) x all one = (all.0, all_one_more contacts clock xs x all.1 one)
