use Rattle.std.proofs.Common.{ap, refl, ◌∙◌, arith}
use Rattle.outside.specs.HostTold.{host_told}
use Rattle.world_devices.specs.Devices.{DeviceValue}
use Rattle.world_devices.proofs.CallLaws.{brings_other, own_scripts, plans_one, runs_files}
use Rattle.world_devices.proofs.CallLaws.{runs_none}
use Rattle.world_devices.proofs.HostLaws.{script_same}
use Rattle.world_devices.proofs.RunningLaws.{device_on}
use Rattle.world_devices.proofs.device.Device.plan.Goals as goal

pub invariant_of-self : goal.invariant_of-self
invariant_of-self c =
    device_on c.self.inside.node c.self.inside.host c.script.new.self c.self.inside.links
    (script_same c.self.inside.host c.script.new.self _ c.script.result c.script.ensures.ok c.script.ensures.err)
    (λ i past.
    brings_other c.self.inside.host c.script.new.self c.args.link c.args.answer (own_scripts c.self.inside.host c.script.new.self _ c.in_ok-script.ensures.ok) c.in_ok-script.ensures.planned i
    (λ same. omega (arith, same, past, c.if-link-self.true)))
    c.self.invariant

pub returns-in_err-script-clause-runs : goal.returns-in_err-script-clause-runs
returns-in_err-script-clause-runs c =
    runs_files c.args.self.now _
    ((script_same c.self.inside.host c.script.new.self _ c.script.result c.script.ensures.ok c.script.ensures.err).files ∙ ap (λ (d : DeviceValue). (host_told d.host).files) c.self.view_is)

pub returns-in_ok-script-clause-runs : goal.returns-in_ok-script-clause-runs
returns-in_ok-script-clause-runs c =
    runs_files c.args.self.now _
    ((script_same c.self.inside.host c.script.new.self _ c.script.result c.script.ensures.ok c.script.ensures.err).files ∙ ap (λ (d : DeviceValue). (host_told d.host).files) c.self.view_is)

pub returns-in_ok-script-clause-links : goal.returns-in_ok-script-clause-links
returns-in_ok-script-clause-links c =
    plans_one c.args.link c.args.answer _ c.args.self.now _ c.self.view_is
    (own_scripts c.self.inside.host c.script.new.self _ c.in_ok-script.ensures.ok)
    c.in_ok-script.ensures.planned c.if-link-self.true refl refl

pub returns-else-link-self-clause-runs : goal.returns-else-link-self-clause-runs
returns-else-link-self-clause-runs c = runs_none c.args.self.now
