use Rattle.std.proofs.Common.{ap, ◌∙◌}
use Rattle.outside.specs.HostTold.{host_told}
use Rattle.world_devices.specs.Devices.{DeviceValue}
use Rattle.world_devices.proofs.CallLaws.{runs_files}
use Rattle.world_devices.proofs.HostLaws.{clock_told}
use Rattle.world_devices.proofs.RunningLaws.{device_told}
use Rattle.world_devices.proofs.device.Device.set_clock.Goals as goal

pub invariant_of-self-2 : goal.invariant_of-self-2
invariant_of-self-2 c =
    device_told c.self.inside.node c.self.inside.host c.set_clock.new.self c.self.inside.links
    (clock_told c.self.inside.host c.set_clock.new.self _ c.set_clock.result c.set_clock.ensures.ok
    c.set_clock.ensures.err) c.self.invariant

pub returns-in_err-set_clock-clause-runs : goal.returns-in_err-set_clock-clause-runs
returns-in_err-set_clock-clause-runs c =
    let told = clock_told c.self.inside.host c.set_clock.new.self _ c.set_clock.result
    c.set_clock.ensures.ok c.set_clock.ensures.err in
    runs_files c.args.self.now _ (told.same.files
    ∙ ap (λ (d : DeviceValue). (host_told d.host).files) c.self.view_is)

pub returns-clause-runs : goal.returns-clause-runs
returns-clause-runs c =
    let told = clock_told c.self.inside.host c.set_clock.new.self _ c.set_clock.result
    c.set_clock.ensures.ok c.set_clock.ensures.err in
    runs_files c.args.self.now _ (told.same.files
    ∙ ap (λ (d : DeviceValue). (host_told d.host).files) c.self.view_is)
