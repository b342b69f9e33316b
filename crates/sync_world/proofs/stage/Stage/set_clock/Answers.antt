use Rattle.std.proofs.Common.{◌<◌, ◌≤◌, ap, false, length, arith, refl, ◌∙◌}
use Rattle.std.proofs.lemmas.List.{length-set}
use Rattle.world_devices.specs.declared.stop.StepFault.TheVariants as fault
use Rattle.sync_world.proofs.StepLaws.{ends_leads, goes_none, leads_err, quiet_leads}
use Rattle.sync_world.proofs.GoLaws.{leads_then}
use Rattle.world_devices.specs.Devices.{DeviceValue}
use Rattle.world_devices.specs.Doing.{clocked}
use Rattle.sync_world.proofs.DoingLaws.{all_changed}
use Rattle.sync_world.proofs.LoopLaws.{one_more}
use Rattle.sync_world.proofs.stage.Stage.set_clock.Goals as goal

pub devices-init : goal.devices-init
devices-init c = record {
  fault = refl;
  number = refl;
  goes = goes_none c.args.self.now;
  clocks = refl;
  links = refl;
  groups = refl;
  posts = refl;
}

pub devices-preserved : goal.devices-preserved
devices-preserved c =
    let within : c.devices.d < length c.devices.self.devices.items =
    omega (arith, c.devices.invariant.number) in
    let laws = c.cite_laws.ensures in
    let made = c.set_clock.ensures in
    record {
      fault = c.devices.invariant.fault;
      number = length-set c.devices.self.devices.items c.devices.d c.set_clock.new.self
          ∙ c.devices.invariant.number;
      goes = λ w s. leads_then w false c.devices.self.devices.items _ c.devices.self.links.items _
          (c.devices.invariant.goes w s)
          (λ v shown. quiet_leads laws.records laws.grows c.devices.self.devices.items
          c.devices.self.links.items c.devices.d c.index_mut-device.result.now
          c.set_clock.new.self within c.index_mut-device.ensures.value made.runs made.links
          made.node v shown);
      clocks = one_more (clocked c.args.at) c.args.self.now.devices.items
          c.devices.self.devices.items c.devices.d c.index_mut-device.result.now
          c.set_clock.new.self
          (omega (arith, within, c.devices.invariant.number)) c.devices.invariant.clocks
          c.index_mut-device.ensures.value
          (c.in_ok-set_clock.ensures.set
          ∙ ap (λ (x : DeviceValue). clocked c.args.at x) c.index_mut-device.ensures.value);
      links = c.devices.invariant.links;
      groups = c.devices.invariant.groups;
      posts = c.devices.invariant.posts;
    }

pub returns-in_err-set_clock-clause-goes : goal.returns-in_err-set_clock-clause-goes
returns-in_err-set_clock-clause-goes c =
    let within : c.devices.d < length c.devices.self.devices.items =
    omega (arith, c.devices.invariant.number) in
    let laws = c.cite_laws.ensures in
    λ w s. leads_err _ fault.Memory w _ _ c.from_residual.ensures.1
    (leads_then w _ c.devices.self.devices.items _ c.devices.self.links.items _
    (c.devices.invariant.goes w s)
    (λ v shown. ends_leads laws.records laws.grows c.devices.self.devices.items
    c.devices.self.links.items c.devices.d c.index_mut-device.result.now
    c.set_clock.new.self within c.index_mut-device.ensures.value c.set_clock.ensures.runs _ v
    shown))

pub returns-clause-goes : goal.returns-clause-goes
returns-clause-goes c = c.devices.invariant.goes

pub returns-clause-does : goal.returns-clause-does
returns-clause-does c =
    let past : length c.args.self.now.devices.items ≤ c.devices.d =
    omega (arith, c.devices.invariant.number) in
    record {
      does = (
        all_changed (clocked c.args.at) c.args.self.now.devices.items
            c.devices.self.devices.items c.devices.d past c.devices.invariant.clocks,
        c.devices.invariant.links,
      );
      groups = c.devices.invariant.groups;
      posts = c.devices.invariant.posts;
    }
