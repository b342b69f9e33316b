-- What a new device has: the journal of so many contacts.
use Rattle.std.proofs.Common.{◌≡◌, ℕ, suc, ◌+◌, Bool, true, false, if◌then◌else◌, nat_lt, List, [], ◌∷◌, ◌++◌, refl, ap, ◌∙◌, subst, arith, Some, None, Result, Ok, Err}
use Rattle.outside.specs.MemHost.{MemHostValue}
use Rattle.client_basic.specs.Bodies.{bundle_meaning}
use Rattle.sync_rules.specs.declared.entries.Entry.{Entry}
use Rattle.sync_rules.specs.declared.entries.Entry.TheVariants as entry
use Rattle.sync_rules.specs.declared.limits.TheConstants.{MAX_CONTACTS}
use Rattle.sync_rules.specs.declared.states.Refused.TheVariants as refused
use Rattle.sync_rules.specs.Clients.{Meaning}
use Rattle.sync_rules.specs.Facts.{Facts, Held, after_all, facts}
use Rattle.sync_rules.specs.Legal.{AllSettling, IsSettlingBatch}
use Rattle.sync_rules.specs.Steps.{first_step}
use Rattle.sync_store.specs.Refusals.{contact_answer}
use Rattle.sync_store.specs.Store.{StoreValue}
use Rattle.world_devices.specs.Devices.{DeviceValue, IsAnew, IsReadyStore}
use Rattle.world_devices.specs.Doing.{DeviceAddsEntry, SettlesFrom}
use Rattle.world_devices.specs.Linking.{DeviceLinksStand, IsNewDevice, IsUnlinked, KeepsLinks}
use Rattle.world_devices.specs.Linking.{LinksBy, WhenDone, new_journal}
use Rattle.world_devices.proofs.NewJournals.{new_holds, new_knows}
use Rattle.world_devices.specs.Running.{HoldsAfterCrash}
use Rattle.world_devices.specs.declared.stop.Ran.{Ran}
use Rattle.world_devices.specs.declared.stop.StepFault.{StepFault}
use Rattle.world_devices.specs.declared.stop.Ran.TheVariants as ran
use Rattle.world_devices.proofs.CallLaws.{ready_in}
use Rattle.world_devices.proofs.StartLaws.{node_unlinked, runs_unlinked}

-- what a device without links is that holds the journal of so many contacts
pub new_device : (contacts clock : ℕ) (d : DeviceValue) → DeviceLinksStand d → IsUnlinked d
    → HoldsAfterCrash (new_journal contacts) d.host → d.clock ≡ clock → IsAnew clock d.host
    → d.stop ≡ None → IsNewDevice contacts clock d
new_device contacts clock d stands unlinked holds clock_is anew unstopped =
    let at = node_unlinked d.node unlinked.unlinked in
    record {
      runs = runs_unlinked d unlinked;
      holds = holds;
      legal = (stands.each at.0 at.1 (new_journal contacts) holds).legal;
      unlinked = unlinked;
      clock_is = clock_is;
      anew = anew;
      unstopped = unstopped;
    }

-- ---- settling where no message is held

none_settles : (clients : Meaning) (f : Facts) (batch : List Entry) → f.held ≡ [] → IsSettlingBatch clients f batch → ⊥
none_settles clients f [] none settles = omega (arith, settles.0)
none_settles clients f (e ∷ es) none settles =
    let is : first_step clients f [] ≡ Some e = subst (λ (hs : List Held). first_step clients f hs ≡ Some e) none settles.2.0 in
    cc

all_settled : (clients : Meaning) (f : Facts) (more : List (List Entry)) → f.held ≡ [] → AllSettling clients f more → more ≡ []
all_settled clients f [] none settling = refl
all_settled clients f (b ∷ bs) none settling = absurd (none_settles clients f b none settling.0)

-- ---- the journal of a new device

-- of a device that was started over empty files
pub begun_journal : (h : MemHostValue) → SettlesFrom [] h → HoldsAfterCrash (new_journal 0) h
begun_journal h from =
    let is : from.whole ≡ [] =
    from.has.extends ∙ all_settled bundle_meaning (facts []) from.has.more refl from.has.settling in
    subst (λ (j : List (List Entry)). HoldsAfterCrash j h) is from.holds

answered : (b : Bool) (number known : ℕ) → Ok number ≡ (if b then Ok known else Err refused.TooManyContacts) → number ≡ known
answered true number known is = cc
answered false number known is = cc

-- the number that a further contact gets
pub number_is : (contacts number : ℕ) (d : DeviceValue) (s : StoreValue) → DeviceLinksStand d
    → IsReadyStore d.node s → Ok number ≡ contact_answer s.state.facts
    → HoldsAfterCrash (new_journal contacts) d.host → number ≡ contacts
number_is contacts number d s stands ready is holds =
    let at = ready_in d.node s ready in
    answered (nat_lt s.state.facts.contacts MAX_CONTACTS) number s.state.facts.contacts is
    ∙ ap (λ (x : StoreValue). x.state.facts.contacts) at.2
    ∙ ap (λ (f : Facts). f.contacts)
    (stands.each at.0 at.1 (new_journal contacts) holds).facts_are ∙ new_knows contacts

-- one contact more, with nothing to settle behind it
pub new_journal_kept : (contacts number : ℕ) (r : Result Ran StepFault) (old new : DeviceValue) → number ≡ contacts → DeviceAddsEntry (entry.Contact number) r old new → HoldsAfterCrash (new_journal contacts) old.host
    → WhenDone r (HoldsAfterCrash (new_journal (contacts + 1)) new.host)
new_journal_kept contacts number (Ok ran.Done) old new is adds holds =
    let added = adds.1.0 (new_journal contacts) holds in
    let none : added.has.more ≡ [] =
    all_settled bundle_meaning
    (after_all (facts (new_journal contacts)) (entry.Contact number ∷ [])) added.has.more
    (new_holds contacts) added.has.settling in
    let whole : added.whole ≡ new_journal contacts ++ ((entry.Contact contacts ∷ []) ∷ []) =
    added.has.is
    ∙ (ap (λ (more : List (List Entry)).
    new_journal contacts ++ ((entry.Contact number ∷ []) ∷ more)) none
    ∙ ap (λ (k : ℕ). new_journal contacts ++ ((entry.Contact k ∷ []) ∷ [])) is) in
    let one_more : suc contacts ≡ contacts + 1 = omega arith in
    subst (λ (k : ℕ). HoldsAfterCrash (new_journal k) new.host) one_more (subst (λ (j : List (List Entry)). HoldsAfterCrash j new.host) whole added.holds)
new_journal_kept contacts number (Ok ran.Crashed) old new is adds holds = tt
new_journal_kept contacts number (Err fault) old new is adds holds = tt

pub when_done : (P : Type 0) (r : Ran) → r ≡ ran.Done → WhenDone (Ok r) P → P
when_done P r is done = subst (λ (x : Ran). WhenDone (Ok x) P) is done

-- without links it stays
pub unlinked_kept : (r : Ran) (old new : DeviceValue) → r ≡ ran.Done → LinksBy (Ok r) old new
    → IsUnlinked old → IsUnlinked new
unlinked_kept r old new is links unlinked =
    let keeps : KeepsLinks old new = subst (λ (x : Ran). LinksBy (Ok x) old new) is links in
    record {
      none = keeps.same_links ∙ unlinked.none;
      unlinked = keeps.same_number ∙ unlinked.unlinked;
    }
