-- A step that is made keeps the number of devices.
use Rattle.std.proofs.Common.{◌≡◌, ℕ, zero, suc, ◌+◌, ◌&&◌, Bool, true, false, List, length, ◌∙◌}
use Rattle.std.proofs.Common.{ap}
use Rattle.std.proofs.Common.{inl, inr, refl, Option, Some, None, Result, Ok, Err}
use Rattle.std.specs.Prelude.{IsErrOf, slice_get}
use Rattle.std.proofs.lemmas.List.{length-map}
use Rattle.std.proofs.lemmas.List.{length-set}
use Rattle.sync_rules.specs.declared.entries.Entry.{Entry}
use Rattle.sync_rules.specs.declared.entries.Mode.{Mode}
use Rattle.world_devices.specs.Devices.{DeviceValue}
use Rattle.world_devices.specs.Doing.{clocked}
use Rattle.world_devices.specs.declared.stop.Ran.{Ran}
use Rattle.world_devices.specs.declared.stop.StepFault.{StepFault}
use Rattle.world_devices.specs.declared.stop.StepFault.TheVariants as fault
use Rattle.world_links.specs.declared.link.Link.{Link}
use Rattle.world_scripts.specs.declared.step.TheConstants.{MAX_DEVICES}
use Rattle.world_scripts.specs.declared.step.WorldStep.{WorldStep}
use Rattle.world_scripts.specs.declared.step.WorldStep.TheVariants as step
use Rattle.sync_world.specs.Doing.{AddsBy, AddsEntry, Arrives, Attaches, DeviceDoes, DoesBy}
use Rattle.sync_world.specs.Doing.{Ground, LinkBecomes, LinksTwo, MakesRound, MakesStep}
use Rattle.sync_world.specs.Doing.{RestsWithin, Stays, Then, TurnsFrom, TurnsIf, TurnsLinked}
use Rattle.sync_world.specs.Doing.{dialled, ground_of, plan_of}
use Rattle.sync_world.specs.Leaving.{IsSame}
use Rattle.sync_world.specs.Moving.{link_after_step}
use Rattle.sync_world.specs.Naming.{nonce_of}
use Rattle.sync_world.specs.Refusing.{has_links}
use Rattle.sync_world.specs.Standing.{is_fatal}
use Rattle.sync_world.specs.declared.stage.Stage.{Stage}

-- as many devices as before
record AsMany (old new : Ground) : Type 0 where
  is : length new.devices ≡ length old.devices

many_then : (a b c : Ground) → AsMany a b → AsMany b c → AsMany a c
many_then a b c first second = record { is = second.is ∙ first.is }

many_same : (old new : Ground) → new ≡ old → AsMany old new
many_same old new same = record { is = ap (λ (g : Ground). length g.devices) same }

-- so what is done leaves, whatever it comes to
abbrev Keeps : {A : Type 0} → (Result (Option A) StepFault → Ground → Ground → Type 0) → Type 0
Keeps {A} Does =
    (came : Result (Option A) StepFault) (old new : Ground) → Does came old new → AsMany old new

stays_many : {A : Type 0} (a : A) → Keeps (Stays a)
stays_many a came old new does = many_same old new does.1

then_many : {A : Type 0} (First : Result (Option A) StepFault → Ground → Ground → Type 0)
    (Second : A → Result (Option A) StepFault → Ground → Ground → Type 0) → Keeps First
    → ((a : A) → Keeps (Second a)) → Keeps (Then First Second)
then_many First Second first second came old new (inl does) =
    many_then old does.0 new (first (Ok (Some does.1)) old does.0 does.2)
    (second does.1 came does.0 new does.3)
then_many First Second first second came old new (inr does) = first came old new does.1

device_many : (d : ℕ) (Did : DeviceValue → DeviceValue → List Link → Type 0) (old new : Ground)
    → DeviceDoes d Did old new → AsMany old new
device_many d Did old new does =
    record { is = ap length does.devices ∙ length-set old.devices d does.is }

adds_many : (o : Option Entry) (d : ℕ) (came : Result Ran StepFault) (links : List Link)
    (old new : Ground) → AddsEntry o d came links old new → AsMany old new
adds_many None d came links old new does = absurd does
adds_many (Some e) d came links old new does = device_many d _ old new does

added_many : (o : Option Entry) (d : ℕ) (old new : Ground) → AddsBy o d (Ok tt) old new
    → AsMany old new
added_many o d old new does = adds_many o d _ _ old new does.1

two_many : (d e : ℕ) (mode : Mode) (latency : ℕ) → Keeps (LinksTwo d e mode latency)
two_many d e mode latency came old new does =
    let both = then_many
    (Attaches d (length old.links) (plan_of d e mode latency) (nonce_of mode (length old.links)))
    (λ (session : ℕ). Attaches e (length old.links) (plan_of e d mode latency) None)
    (λ c o n does. device_many d _ o n does) (λ session c o n does. device_many e _ o n does) came
    (dialled d e old) new does in
    record { is = both.is }

-- ---- turns and rounds

turn_if_many : (b : Bool) (d : ℕ) → Keeps (TurnsIf b d)
turn_if_many true d came old new does = device_many d _ old new does
turn_if_many false d came old new does = many_same old new does.1

turns_many : (left d : ℕ) (still : Bool) → Keeps (TurnsFrom left d still)
turns_many zero d still = stays_many still
turns_many (suc left) d still =
    then_many (TurnsLinked d) (λ quiet. TurnsFrom left (d + 1) (still && quiet))
    (λ came old new does. turn_if_many (has_links (slice_get old.devices d)) d came old new does)
    (λ quiet. turns_many left (d + 1) (still && quiet))

arrives_many : (still : Bool) → Keeps (Arrives still)
arrives_many still came old new does = record { is = ap (λ (g : Ground). length g.devices) does.1 }

round_many : Keeps MakesRound
round_many =
    then_many (TurnsFrom MAX_DEVICES 0 true) Arrives (turns_many MAX_DEVICES 0 true) arrives_many

rests_many : (rounds : ℕ) (quiet : Bool) → Keeps (RestsWithin rounds quiet)
rests_many zero quiet = stays_many quiet
rests_many (suc rounds) true = stays_many true
rests_many (suc rounds) false =
    then_many MakesRound (RestsWithin rounds) round_many (rests_many rounds)

-- ---- steps

becomes_many : (link : ℕ) (o : Option Link) (old new : Ground) → LinkBecomes link o (Ok tt) old new
    → AsMany old new
becomes_many link None old new does = absurd does
becomes_many link (Some l) old new does =
    record { is = ap (λ (g : Ground). length g.devices) does }

done_many : (made : WorldStep) (s : Stage) (new : Ground) → MakesStep made (Ok tt) s new
    → AsMany (ground_of s) new
done_many (step.Group d kind descriptor) s new does = added_many _ d (ground_of s) new does
done_many (step.Share d e group level) s new does = added_many _ d (ground_of s) new does
done_many (step.Post d group time parents text) s new does =
    added_many _ d (ground_of s) new does
done_many (step.Link d e mode latency) s new does =
    two_many d e mode latency (Ok does.0) (ground_of s) new does.1
done_many (step.Turn d) s new does = device_many d _ (ground_of s) new does.1
done_many (step.Clock at) s new does =
    record { is = ap length does.0 ∙ length-map s.devices.items (clocked at) }
done_many (step.Stop d calls pick) s new does = device_many d _ (ground_of s) new does
done_many (step.Restart d) s new does = device_many d _ (ground_of s) new does
done_many (step.Rest rounds) s new does =
    rests_many rounds false (Ok does.0) (ground_of s) new does.1
done_many made s new does =
    becomes_many (link_after_step made s.links.items).0 (link_after_step made s.links.items).1
    (ground_of s)
    new does

pub does_count : (made : WorldStep) (s : Stage) (new : Ground) → MakesStep made (Ok tt) s new
    → length new.devices ≡ length s.devices.items
does_count made s new does = (done_many made s new does).is

-- the same of a step that does not fail for good
pub step_count : (made : WorldStep) (result : Result (Unit {0}) StepFault) (old new : Stage)
    → is_fatal result ≡ false → DoesBy made result old new
    → (IsErrOf result fault.Refused → IsSame old new)
    → length new.devices.items ≡ length old.devices.items
step_count made (Ok u) old new fatal does same = does_count made old (ground_of new) does.does
step_count made (Err fault.Refused) old new fatal does same = ap length (same refl).devices
step_count made (Err fault.Full) old new fatal does same = absurd cc
step_count made (Err fault.Memory) old new fatal does same = absurd cc
