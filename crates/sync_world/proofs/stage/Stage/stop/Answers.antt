use Rattle.std.proofs.Common.{◌<◌, length, arith, false}
use Rattle.sync_world.proofs.GoLaws.{same_leads}
use Rattle.world_devices.specs.declared.stop.StepFault.TheVariants as fault
use Rattle.sync_world.proofs.StepLaws.{ends_leads, leads_err, quiet_leads}
use Rattle.sync_world.proofs.RefusingLaws.{by_same, found}
use Rattle.sync_world.proofs.stage.Stage.stop.Goals as goal

pub returns-then-d-len-clause-goes : goal.returns-then-d-len-clause-goes
returns-then-d-len-clause-goes c = λ w s. same_leads w _ _ _ s

pub returns-clause-goes : goal.returns-clause-goes
returns-clause-goes c =
    let within : c.args.d < length c.args.self.now.devices.items = omega arith in
    let made = c.stop_at.ensures in
    λ w s. quiet_leads c.cite_laws.ensures.records c.cite_laws.ensures.grows
    c.args.self.now.devices.items c.args.self.now.links.items c.args.d
    c.index_mut-device.result.now c.stop_at.new.self within
    c.index_mut-device.ensures.value made.runs made.links made.node w s

pub returns-in_err-stop_at-clause-goes : goal.returns-in_err-stop_at-clause-goes
returns-in_err-stop_at-clause-goes c =
    let within : c.args.d < length c.args.self.now.devices.items = omega arith in
    let laws = c.cite_laws.ensures in
    λ w s. leads_err _ fault.Memory w _ _ c.from_residual.ensures.1
    (ends_leads laws.records laws.grows c.args.self.now.devices.items
    c.args.self.now.links.items c.args.d c.index_mut-device.result.now c.stop_at.new.self
    within
    c.index_mut-device.ensures.value c.stop_at.ensures.runs _ w s)

pub returns-clause-refused : goal.returns-clause-refused
returns-clause-refused c =
    by_same false _ _ (found c.args.self.now.devices.items c.args.d c.index_mut-device.result.now
    (omega arith) c.index_mut-device.ensures.value) tt
