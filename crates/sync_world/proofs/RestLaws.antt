-- Calls on a stage, one behind the other.
use Rattle.std.proofs.Common.{◌≡◌, Bool, false, List, map, refl, sym, ◌∙◌, ap, subst, Result, Ok}
use Rattle.std.proofs.Common.{Err}
use Rattle.std.specs.Prelude.{IsErrAnd}
use Rattle.world_devices.specs.Devices.{DeviceValue}
use Rattle.world_devices.specs.declared.stop.StepFault.{StepFault}
use Rattle.world_devices.specs.declared.stop.StepFault.TheVariants as fault
use Rattle.world_laws.specs.Worlds.{World}
use Rattle.world_links.specs.declared.link.Link.{Link}
use Rattle.sync_world.specs.Cited.{WorldLaws}
use Rattle.sync_world.specs.Shown.{link_arrived}
use Rattle.sync_world.specs.Standing.{LeadsFromShown, LeadsOn, is_fatal}
use Rattle.sync_world.specs.declared.stage.Stage.{Stage}
use Rattle.sync_world.proofs.CarryLaws.{arrived_leads}
use Rattle.sync_world.proofs.GoLaws.{leads_then, stays}

pub goes_not : (s : Stage) → LeadsFromShown false s s
goes_not s w shown = stays w s.devices.items s.links.items shown

pub goes_then : (fatal : Bool) (a b c : Stage) → LeadsFromShown false a b → LeadsFromShown fatal b c
    → LeadsFromShown fatal a c
goes_then fatal a b c first second w shown =
    leads_then w fatal b.devices.items c.devices.items b.links.items c.links.items (first w shown)
    second

-- a fault that one call answers is as fatal where it is passed on
same_fault : (A B : Type 0) (e : StepFault) → is_fatal {A = A} (Err e) ≡ is_fatal {A = B} (Err e)
same_fault A B fault.Refused = refl
same_fault A B fault.Full = refl
same_fault A B fault.Memory = refl

pub passed_on : (A B : Type 0) (a b : Stage) (r : Result B StepFault) (e : StepFault) → IsErrAnd r
    (λ x. x ≡ e) → LeadsFromShown (is_fatal {A = A} (Err e)) a b → LeadsFromShown (is_fatal r) a b
passed_on A B a b (Ok x) e is goes = absurd is
passed_on A B a b (Err x) e is goes =
    subst (λ (f : Bool). LeadsFromShown f a b) (same_fault A B e
    ∙ ap (λ (y : StepFault). is_fatal {A = B} (Err y)) (sym is)) goes

-- all that is in flight arrives then
arrives_then : WorldLaws → (w : World) (devices : List DeviceValue) (ls ls' : List Link)
    → ls' ≡ map link_arrived ls → LeadsOn w false devices ls → LeadsOn w false devices ls'
arrives_then laws w devices ls ls' is leads =
    subst (λ (l : List Link). LeadsOn w false devices l) (sym is)
    (leads_then w false devices devices ls (map link_arrived ls) leads (λ v shown.
    arrived_leads laws v devices ls shown))

pub goes_arrives : WorldLaws → (a b c : Stage) → LeadsFromShown false a b
    → c.devices.items ≡ b.devices.items → c.links.items ≡ map link_arrived b.links.items
    → LeadsFromShown false a c
goes_arrives laws a b c goes devices links w shown =
    subst (λ (ds : List DeviceValue). LeadsOn w false ds c.links.items) (sym devices)
    (arrives_then laws w b.devices.items b.links.items c.links.items links (goes w shown))
