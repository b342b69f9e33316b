use Rattle.std.proofs.Common.{[], arith, subst, sym}
use Rattle.world_devices.specs.Brought.{IsSilent}
use Rattle.world_devices.specs.Devices.{DeviceValue}
use Rattle.world_devices.specs.Doing.{Settles, load_calls}
use Rattle.world_devices.specs.Running.{HoldsAfterCrash}
use Rattle.world_devices.proofs.CallLaws.{ready_still}
use Rattle.world_devices.proofs.RunningLaws.{begins_running}
use Rattle.world_devices.proofs.StartLaws.{comes_keeps}
use Rattle.world_devices.proofs.CutLaws.{same_fault}
use Rattle.world_devices.specs.declared.starting.StartFault.TheVariants as start_fault
use Rattle.world_devices.specs.Doing.{StartCut}
use Rattle.std.proofs.Common.{Err, ap}
use Rattle.world_devices.proofs.device.Device.start.Goals as goal

pub open_store-requires-clause-silent : goal.open_store-requires-clause-silent
open_store-requires-clause-silent c =
    subst (λ (d : DeviceValue). IsSilent d.host) (sym c.self.view_is) c.requires.silent

pub returns-in_err-store-clause-starts : goal.returns-in_err-store-clause-starts
returns-in_err-store-clause-starts c =
    subst (λ (d : DeviceValue). Settles load_calls d.host c.open_store.new.host) c.self.view_is
    c.open_store.ensures.settling

pub returns-in_err-new-clause-starts : goal.returns-in_err-new-clause-starts
returns-in_err-new-clause-starts c =
    subst (λ (d : DeviceValue). Settles load_calls d.host c.open_store.new.host) c.self.view_is
    c.open_store.ensures.settling

pub returns-clause-starts : goal.returns-clause-starts
returns-clause-starts c =
    subst (λ (d : DeviceValue). Settles load_calls d.host c.open_store.new.host) c.self.view_is
    c.open_store.ensures.settling

pub invariant_of-self : goal.invariant_of-self
invariant_of-self c =
    (tt, comes_keeps c.self.inside.host c.open_store.new.host c.open_store.ensures.settling.left [] c.self.invariant.1, omega arith)

pub invariant_of-self-in_err-new : goal.invariant_of-self-in_err-new
invariant_of-self-in_err-new c =
    (tt, comes_keeps c.self.inside.host c.open_store.new.host c.open_store.ensures.settling.left [] c.self.invariant.1, omega arith)

pub invariant_of-self-2 : goal.invariant_of-self-2
invariant_of-self-2 c = (
  begins_running c.in_ok-new.field-0 c.in_ok-store.store c.self.inside.clock c.open_store.new.host
      c.in_ok-new.ensures c.in_ok-store.ensures.started c.in_ok-store.ensures.anew,
  comes_keeps c.self.inside.host c.open_store.new.host c.open_store.ensures.settling.left [] c.self.invariant.1,
  omega arith,
)

pub returns-clause-still : goal.returns-clause-still
returns-clause-still c = λ _. ready_still c.in_ok-store.store c.open_store.new.host c.in_ok-store.ensures.started.ready

pub returns-clause-loads : goal.returns-clause-loads
returns-clause-loads c = λ j holds.
    c.in_ok-store.ensures.loads j
    (subst (λ (d : DeviceValue). HoldsAfterCrash j d.host) (sym c.self.view_is) holds)

pub returns-in_err-store-clause-cut : goal.returns-in_err-store-clause-cut
returns-in_err-store-clause-cut c is =
    subst (λ (d : DeviceValue). StartCut d.host c.open_store.new.host) c.self.view_is
    (c.in_err-store.ensures.cut
    (ap (λ x. Err x) (same_fault c.from_residual.result c.in_err-store.field-0.0 start_fault.DiskFault c.from_residual.ensures.1 is)))
