use Rattle.std.proofs.Common.{ap, subst}
use Rattle.world_devices.specs.Devices.{DeviceValue}
use Rattle.world_devices.specs.Doing.{ComesOf}
use Rattle.world_devices.proofs.HostLaws.{silent_fresh}
use Rattle.world_devices.proofs.StartLaws.{comes_crash, comes_then, crashes_to, device_idle}
use Rattle.world_devices.proofs.StartLaws.{err_only}
use Rattle.world_devices.proofs.device.Device.crash.Goals as goal

pub invariant_of-self : goal.invariant_of-self
invariant_of-self c =
    device_idle c.self.inside.node c.self.inside.host c.crash.new.self _
    (comes_crash c.args.pick c.self.inside.host c.crash.new.self c.crash.result c.crash.ensures.ok c.crash.ensures.err)
    c.self.invariant

pub invariant_of-self-2 : goal.invariant_of-self-2
invariant_of-self-2 c =
    device_idle c.self.inside.node c.self.inside.host c.crash.new.self _
    (comes_crash c.args.pick c.self.inside.host c.crash.new.self c.crash.result c.crash.ensures.ok c.crash.ensures.err)
    c.self.invariant

pub start-requires-clause-silent : goal.start-requires-clause-silent
start-requires-clause-silent c = silent_fresh c.crash.new.self c.in_ok-crash.ensures.ok.disk c.in_ok-crash.ensures.ok.anew

pub returns-in_err-crash-clause-to : goal.returns-in_err-crash-clause-to
returns-in_err-crash-clause-to c = err_only _ _ c.from_residual.result c.from_residual.ensures.1

pub returns-in-Ok-clause-to : goal.returns-in-Ok-clause-to
returns-in-Ok-clause-to c =
    crashes_to c.args.pick c.self.inside.host c.args.self.now.host c.crash.new.self c.start.new.self
    (ap (λ (d : DeviceValue). d.host) c.self.view_is) c.in_ok-crash.ensures.ok
    c.in-Ok.ensures.loads c.in-Ok.ensures.anew c.in-Ok.ensures.links c.start.ensures.stop
    c.start.ensures.starts.calls

pub returns-in_err-crash-clause-left : goal.returns-in_err-crash-clause-left
returns-in_err-crash-clause-left c =
    subst (λ (d : DeviceValue). ComesOf d.host c.crash.new.self) c.self.view_is
    (comes_crash c.args.pick c.self.inside.host c.crash.new.self c.crash.result c.crash.ensures.ok c.crash.ensures.err)

pub returns-in-Ok-clause-left : goal.returns-in-Ok-clause-left
returns-in-Ok-clause-left c =
    subst (λ (d : DeviceValue). ComesOf d.host c.start.new.self.host) c.self.view_is
    (comes_then c.self.inside.host c.crash.new.self c.start.new.self.host
    (comes_crash c.args.pick c.self.inside.host c.crash.new.self c.crash.result c.crash.ensures.ok c.crash.ensures.err)
    c.start.ensures.starts.left)

pub returns-in-Err-clause-left : goal.returns-in-Err-clause-left
returns-in-Err-clause-left c =
    subst (λ (d : DeviceValue). ComesOf d.host c.start.new.self.host) c.self.view_is
    (comes_then c.self.inside.host c.crash.new.self c.start.new.self.host
    (comes_crash c.args.pick c.self.inside.host c.crash.new.self c.crash.result c.crash.ensures.ok c.crash.ensures.err)
    c.start.ensures.starts.left)
