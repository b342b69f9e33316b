-- What steps do that are calls of one device or of one link, over plain values.
use Rattle.std.specs.Result.{IsErrAnd}
use Rattle.std.proofs.Common.{◌≡◌, ℕ, zero, suc, ◌<◌, ◌≤◌, List, [], ◌∷◌, ◌++◌, map, length, take}
use Rattle.std.proofs.Common.{drop, append-nil, arith, refl, sym, ap, ◌∙◌, subst, inr, Option}
use Rattle.std.proofs.Common.{Some, None, Result, Ok, Err}
use Rattle.std.specs.Prelude.{slice_index_or, slice_set}
use Rattle.std.specs.Option.{option_map, option_to_list}
use Rattle.sync_ids.specs.Values.{GroupValue, MessageValue}
use Rattle.sync_ids.specs.Ids.{group_id_of, message_id_of}
use Rattle.sync_rules.specs.declared.entries.Entry.{Entry}
use Rattle.sync_rules.specs.declared.entries.Entry.TheVariants as entry
use Rattle.sync_rules.specs.declared.entries.Level.{Level}
use Rattle.sync_rules.specs.Facts.{Id}
use Rattle.world_devices.specs.Devices.{DeviceValue}
use Rattle.world_devices.specs.Doing.{DeviceAddsEntry}
use Rattle.world_devices.specs.declared.stop.Ran.{Ran}
use Rattle.world_devices.specs.declared.stop.StepFault.{StepFault}
use Rattle.world_devices.specs.declared.stop.StepFault.TheVariants as fault
use Rattle.world_links.specs.declared.link.Link.{Link}
use Rattle.world_scripts.specs.declared.step.WorldStep.{WorldStep}
use Rattle.sync_world.specs.Doing.{AddsBy, AddsEntry, DeviceDoes, DoesBy, Ground, LinkBecomes}
use Rattle.sync_world.specs.Doing.{MakesStep, ground_of}
use Rattle.sync_world.specs.Moving.{MakesOfLink}
use Rattle.sync_world.specs.Naming.{IsMade}
use Rattle.sync_world.specs.Parts.{WhenFull}
use Rattle.sync_world.specs.Staging.{after_ran}
use Rattle.sync_world.specs.declared.stage.Stage.{Stage}
use Rattle.sync_world.proofs.WireLaws.{get_at}

-- ---- answers that are handed on

-- a fault of one call is that of the other one
pub handed : {A : Type 0} (By : Result A StepFault → Type 0) (Fills : Type 0)
    (r : Result A StepFault) (e : StepFault) → ((f : StepFault) → WhenFull f Fills → By (Err f))
    → IsErrAnd r (λ y. y ≡ e) → WhenFull e Fills → By r
handed By Fills (Ok a) e faulty is when = absurd is
handed By Fills (Err f) e faulty is when =
    faulty f (subst (λ (x : StepFault). WhenFull x Fills) (sym is) when)

pub when_full : (Fills Fills' : Type 0) (e : StepFault) → (Fills → Fills') → WhenFull e Fills
    → WhenFull e Fills'
when_full Fills Fills' fault.Refused then when = tt
when_full Fills Fills' fault.Full then when = then when
when_full Fills Fills' fault.Memory then when = tt

-- only memory was wanting
pub memory_only : (Fills : Type 0) (e : StepFault) → e ≡ fault.Memory → WhenFull e Fills
memory_only Fills e is = subst (λ (f : StepFault). WhenFull f Fills) (sym is) tt

-- what could not be made fills no journal
pub made_unfilled : {A : Type 0} (Fills : Type 0) (o : Option A) (f : StepFault) → IsMade o (Err f)
    → WhenFull f Fills
made_unfilled Fills o fault.Refused made = tt
made_unfilled Fills None fault.Full made = absurd made
made_unfilled Fills (Some v) fault.Full made = absurd made
made_unfilled Fills o fault.Memory made = tt

does_fault : (made : WorldStep) (old new : Stage) (f : StepFault) → WhenFull f
    (MakesStep made (Err fault.Full) old (ground_of new))
    → MakesStep made (Err fault.Memory) old (ground_of new)
    → DoesBy made (Err f) old new
does_fault made old new fault.Refused when lost = tt
does_fault made old new fault.Full when lost = when
does_fault made old new fault.Memory when lost = lost

pub does_handed : (made : WorldStep) (r : Result (Unit {0}) StepFault) (e : StepFault)
    (old new : Stage) → IsErrAnd r (λ y. y ≡ e)
    → WhenFull e (MakesStep made (Err fault.Full) old (ground_of new))
    → MakesStep made (Err fault.Memory) old (ground_of new)
    → DoesBy made r old new
does_handed made r e old new is when lost =
    handed (λ x. DoesBy made x old new) (MakesStep made (Err fault.Full) old (ground_of new)) r e
    (λ f w. does_fault made old new f w lost) is when

-- ---- one device at an index

-- it made a call, and the links are then these
pub device_does : (d : ℕ) (Did : DeviceValue → DeviceValue → List Link → Type 0)
    (devices devices' : List DeviceValue) (links links' : List Link) (was is : DeviceValue)
    → d < length devices → was ≡ slice_index_or devices d was → Did was is links'
    → devices' ≡ slice_set devices d is
    → DeviceDoes d Did (record { devices = devices; links = links })
    (record { devices = devices'; links = links' })
device_does d Did devices devices' links links' was is within at did is_devices = record {
  was = was;
  is = is;
  stands = get_at devices d was within at;
  did = did;
  devices = is_devices;
}

-- a step made the call of a device that adds its entry
module _ (made : WorldStep) (old new : Stage) (o : Option Entry) (e : Entry) (d : ℕ)
    (was is : DeviceValue)
    (by : (came : Result (Unit {0}) StepFault) → AddsBy o d came (ground_of old) (ground_of new)
    → MakesStep made came old (ground_of new)) (entry_is : o ≡ Some e)
    (within : d < length old.devices.items) (at : was ≡ slice_index_or old.devices.items d was)
    (now : new.devices.items ≡ slice_set old.devices.items d is) where
  adds_entry : (came : Result Ran StepFault) (links : List Link) → DeviceAddsEntry e came was is
      → new.links.items ≡ links → AddsEntry o d came links (ground_of old) (ground_of new)
  adds_entry came links adds same =
      subst (λ (x : Option Entry). AddsEntry x d came links (ground_of old) (ground_of new))
      (sym entry_is)
      (device_does d (λ (w i : DeviceValue) (behind : List Link).
      DeviceAddsEntry e came w i × (behind ≡ links)) old.devices.items new.devices.items
      old.links.items new.links.items was is within at (adds, same) now)

  pub added : (came : Ran) → DeviceAddsEntry e (Ok came) was is
      → new.links.items ≡ after_ran came d old.links.items
      → MakesStep made (Ok tt) old (ground_of new)
  added came adds same =
      by (Ok tt) (came, adds_entry (Ok came) (after_ran came d old.links.items) adds same)

  -- it found no memory, whatever the call answered
  added_lost : (came : Result Ran StepFault) → DeviceAddsEntry e came was is
      → new.links.items ≡ old.links.items → MakesStep made (Err fault.Memory) old (ground_of new)
  added_lost came adds same =
      by (Err fault.Memory) (inr (came, adds_entry came old.links.items adds same))

  added_full : (f : StepFault) → DeviceAddsEntry e (Err f) was is
      → new.links.items ≡ old.links.items
      → WhenFull f (MakesStep made (Err fault.Full) old (ground_of new))
  added_full fault.Refused adds same = tt
  added_full fault.Full adds same =
      by (Err fault.Full) (adds_entry (Err fault.Full) old.links.items adds same)
  added_full fault.Memory adds same = tt

  pub added_not : (r : Result (Unit {0}) StepFault) (f : StepFault) → IsErrAnd r (λ y. y ≡ f)
      → DeviceAddsEntry e (Err f) was is → new.links.items ≡ old.links.items → DoesBy made r old new
  added_not r f faulty adds same =
      does_handed made r f old new faulty (added_full f adds same) (added_lost (Err f) adds same)

  pub added_in_vain : (r : Result (Unit {0}) StepFault) (came : Result Ran StepFault)
      → IsErrAnd r (λ y. y ≡ fault.Memory) → DeviceAddsEntry e came was is
      → new.links.items ≡ old.links.items → DoesBy made r old new
  added_in_vain r came faulty adds same =
      does_handed made r fault.Memory old new faulty tt (added_lost came adds same)

-- ---- one link

abbrev pub ground : List DeviceValue → List Link → Ground
ground devices links = record { devices = devices; links = links }

pub same_ground : (devices devices' : List DeviceValue) (links links' : List Link)
    → devices' ≡ devices
    → links' ≡ links → ground devices' links' ≡ ground devices links
same_ground devices devices' links links' same now =
    ap (λ (ds : List DeviceValue). ground ds links') same
    ∙ ap (λ (ls : List Link). ground devices ls) now

-- a link became this on the ground whose devices are as before
pub link_becomes : (o : Option Link) (link : ℕ) (devices devices' : List DeviceValue)
    (links links' : List Link) (r : Result (Unit {0}) StepFault) → devices' ≡ devices
    → MakesOfLink o link links links' r
    → LinkBecomes link o r (record { devices = devices; links = links })
    (record { devices = devices'; links = links' })
link_becomes None link devices devices' links links' (Ok u) same makes = absurd makes
link_becomes None link devices devices' links links' (Err fault.Refused) same makes =
    same_ground devices devices' links links' same makes
link_becomes None link devices devices' links links' (Err fault.Full) same makes = absurd makes
link_becomes None link devices devices' links links' (Err fault.Memory) same makes =
    same_ground devices devices' links links' same makes
link_becomes (Some l) link devices devices' links links' (Ok u) same makes =
    same_ground devices devices' (slice_set links link l) links' same makes
link_becomes (Some l) link devices devices' links links' (Err fault.Refused) same makes =
    absurd makes
link_becomes (Some l) link devices devices' links links' (Err fault.Full) same makes = absurd makes
link_becomes (Some l) link devices devices' links links' (Err fault.Memory) same makes =
    same_ground devices devices' links links' same makes

-- ---- entries

-- what was made is this
pub made_some : {A : Type 0} (o : Option A) (v : A) → IsMade o (Ok v) → o ≡ Some v
made_some None v made = absurd made
made_some (Some w) v made = ap (λ x. Some x) (sym made)

pub made_as : {A : Type 0} (as_entry : A → Entry) (o : Option A) (v : A) → IsMade o (Ok v)
    → option_map as_entry o ≡ Some (as_entry v)
made_as as_entry o v made = ap (λ x. option_map as_entry x) (made_some o v made)

-- the level of a group, by the contact and the id that were found
pub made_level : (o : Option GroupValue) (def : GroupValue) (contact contact' : ℕ) (id : Id)
    (level : Level) → IsMade o (Ok def) → contact ≡ contact' → id ≡ group_id_of def
    → option_map (λ (g : GroupValue). entry.Level contact' (group_id_of g) level) o
    ≡ Some (entry.Level contact id level)
made_level o def contact contact' id level made contact_is id_is =
    ap (λ x. option_map (λ (g : GroupValue). entry.Level contact' (group_id_of g) level) x)
    (made_some o def made)
    ∙ (ap (λ (i : Id). Some (entry.Level contact' i level)) (sym id_is)
    ∙ ap (λ (k : ℕ). Some (entry.Level k id level)) (sym contact_is))

-- the posts with this one
pub made_post : (o : Option MessageValue) (m : MessageValue) (posts posts' : List (List ℕ))
    (id : List ℕ) → IsMade o (Ok m) → id ≡ message_id_of m → posts' ≡ posts ++ id ∷ []
    → posts' ≡ posts ++ option_to_list (option_map message_id_of o)
made_post o m posts posts' id made id_is is =
    is ∙ (ap (λ (i : List ℕ). posts ++ i ∷ []) id_is
    ∙ ap (λ x. posts ++ option_to_list (option_map message_id_of x)) (sym (made_some o m made)))

-- ---- all devices

taken : {A : Type 0} (f : A → A) (xs : List A) (n : ℕ) → length xs ≤ n → take n xs ≡ xs
taken f [] zero past = refl
taken f [] (suc n) past = refl
taken f (x ∷ xs) zero past = absurd (omega arith)
taken f (x ∷ xs) (suc n) past = ap (λ ys. x ∷ ys) (taken f xs n (omega arith))

dropped : {A : Type 0} (f : A → A) (xs : List A) (n : ℕ) → length xs ≤ n → drop n xs ≡ []
dropped f [] zero past = refl
dropped f [] (suc n) past = refl
dropped f (x ∷ xs) zero past = absurd (omega arith)
dropped f (x ∷ xs) (suc n) past = dropped f xs n (omega arith)

-- every one was changed
pub all_changed : {A : Type 0} (f : A → A) (xs ys : List A) (n : ℕ) → length xs ≤ n → ys ≡ map f
    (take n xs) ++ drop n xs → ys ≡ map f xs
all_changed f xs ys n past so_far =
    so_far ∙ (ap (λ zs. map f zs ++ drop n xs) (taken f xs n past)
    ∙ (ap (λ zs. map f xs ++ zs) (dropped f xs n past) ∙ append-nil (map f xs)))
