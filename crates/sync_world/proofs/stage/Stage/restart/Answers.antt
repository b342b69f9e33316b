use Rattle.std.proofs.Common.{◌<◌, false, length, arith, rules}
use Rattle.sync_world.proofs.GoLaws.{same_leads}
use Rattle.sync_world.proofs.StepLaws.{fails_leads, gone_goes, leads_err, unrefused_same}
use Rattle.world_devices.specs.Refusals.{RefusedBy}
use Rattle.sync_world.proofs.RefusingLaws.{by_same, found}
use Rattle.std.proofs.Common.{Ok, List, map, ◌≡◌}
use Rattle.world_devices.specs.Devices.{DeviceValue}
use Rattle.world_devices.specs.Doing.{DeviceRestarts}
use Rattle.world_links.specs.Links.{left_by}
use Rattle.world_links.specs.declared.link.Link.{Link}
use Rattle.sync_world.proofs.DoingLaws.{device_does}
use Rattle.sync_world.proofs.stage.Stage.restart.Goals as goal

pub returns-then-d-len-clause-goes : goal.returns-then-d-len-clause-goes
returns-then-d-len-clause-goes c = λ w s. same_leads w _ _ _ s

pub returns-in_err-restart-clause-goes : goal.returns-in_err-restart-clause-goes
returns-in_err-restart-clause-goes c =
    let within : c.args.d < length c.args.self.now.devices.items = omega arith in
    let laws = c.cite_laws.ensures in
    λ w s. leads_err _ c.in_err-restart.field-0.0 w _ _ c.from_residual.ensures.1
    (fails_leads laws.records laws.grows c.args.self.now.devices.items
    c.args.self.now.links.items c.args.d c.index_mut-device.result.now c.restart.new.self
    within c.index_mut-device.ensures.value c.restart.ensures.runs
    c.in_err-restart.field-0.0
    (unrefused_same c.in_err-restart.field-0.0 c.index_mut-device.result.now c.restart.new.self
    c.in_err-restart.ensures.unrefused) w s)

pub returns-clause-goes : goal.returns-clause-goes
returns-clause-goes c =
    let within : c.args.d < length c.args.self.now.devices.items = omega arith in
    let laws = c.cite_laws.ensures in
    λ w s. gone_goes laws.records laws.grows c.args.self.now.devices.items
    c.args.self.now.links.items c.args.d c.index_mut-device.result.now c.restart.new.self within
    c.index_mut-device.ensures.value c.restart.ensures.runs
    c.in_ok-restart.ensures.running c.in_ok-restart.ensures.links _ _ c.came.ensures.devices
    c.came.ensures.links w s

pub returns-in_err-restart-clause-refused : goal.returns-in_err-restart-clause-refused
returns-in_err-restart-clause-refused c =
    let by : RefusedBy false c.from_residual.result = search rules in
    by_same false _ _ (found c.args.self.now.devices.items c.args.d c.index_mut-device.result.now
    (omega arith) c.index_mut-device.ensures.value) by

pub returns-clause-refused : goal.returns-clause-refused
returns-clause-refused c =
    by_same false _ _ (found c.args.self.now.devices.items c.args.d c.index_mut-device.result.now
    (omega arith) c.index_mut-device.ensures.value) tt

pub returns-clause-does : goal.returns-clause-does
returns-clause-does c =
    let within : c.args.d < length c.args.self.now.devices.items = omega arith in
    record {
      does = device_does c.args.d (λ (was is : DeviceValue) (links : List Link).
          DeviceRestarts (Ok tt) was is
          × (links ≡ map (left_by c.args.d) c.args.self.now.links.items))
          c.args.self.now.devices.items _ c.args.self.now.links.items _
          c.index_mut-device.result.now c.restart.new.self
          within c.index_mut-device.ensures.value
          (c.in_ok-restart.ensures.restarts, c.came.ensures.links)
          c.came.ensures.devices;
      groups = c.came.ensures.groups;
      posts = c.came.ensures.posts;
    }
