use Rattle.std.proofs.Common.{[], None, ap, ◌∙◌}
use Rattle.outside.specs.HostTold.{host_told}
use Rattle.world_devices.specs.Devices.{DeviceValue}
use Rattle.world_devices.proofs.CallLaws.{runs_files}
use Rattle.world_devices.proofs.HostLaws.{failing_told, stop_told}
use Rattle.world_devices.proofs.RunningLaws.{device_told}
use Rattle.world_devices.proofs.device.Device.stop_at.Goals as goal

pub invariant_of-self : goal.invariant_of-self
invariant_of-self c =
    device_told c.self.inside.node c.self.inside.host c.fail_at.new.self c.self.inside.links
    (stop_told c.self.inside.host c.fail_none.new.self c.fail_at.new.self c.in-Some.call
    c.fail_at.result c.fail_none.ensures c.fail_at.ensures.ok c.fail_at.ensures.err)
    c.self.invariant

pub invariant_of-self-in-Some : goal.invariant_of-self-in-Some
invariant_of-self-in-Some c =
    device_told c.self.inside.node c.self.inside.host c.fail_at.new.self c.self.inside.links
    (stop_told c.self.inside.host c.fail_none.new.self c.fail_at.new.self c.in-Some.call
    c.fail_at.result c.fail_none.ensures c.fail_at.ensures.ok c.fail_at.ensures.err)
    c.self.invariant

pub invariant_of-self-in_default : goal.invariant_of-self-in_default
invariant_of-self-in_default c =
    device_told c.self.inside.node c.self.inside.host c.fail_none.new.self c.self.inside.links
    (failing_told c.self.inside.host c.fail_none.new.self [] None c.fail_none.ensures)
    c.self.invariant

pub returns-in_err-fail_at-clause-runs : goal.returns-in_err-fail_at-clause-runs
returns-in_err-fail_at-clause-runs c =
    let told = stop_told c.self.inside.host c.fail_none.new.self c.fail_at.new.self c.in-Some.call
    c.fail_at.result c.fail_none.ensures c.fail_at.ensures.ok c.fail_at.ensures.err in
    runs_files c.args.self.now _ (told.same.files
    ∙ ap (λ (d : DeviceValue). (host_told d.host).files) c.self.view_is)

pub returns-in_ok-fail_at-clause-runs : goal.returns-in_ok-fail_at-clause-runs
returns-in_ok-fail_at-clause-runs c =
    let told = stop_told c.self.inside.host c.fail_none.new.self c.fail_at.new.self c.in-Some.call
    c.fail_at.result c.fail_none.ensures c.fail_at.ensures.ok c.fail_at.ensures.err in
    runs_files c.args.self.now _ (told.same.files
    ∙ ap (λ (d : DeviceValue). (host_told d.host).files) c.self.view_is)

pub returns-in_default-clause-runs : goal.returns-in_default-clause-runs
returns-in_default-clause-runs c =
    runs_files c.args.self.now _
    ((failing_told c.self.inside.host c.fail_none.new.self [] None c.fail_none.ensures).same.files
    ∙ ap (λ (d : DeviceValue). (host_told d.host).files) c.self.view_is)
