use Rattle.std.proofs.Common.{◌<◌, ◌∙◌, length, arith, ap, Err, rules, true, slice_get, refl, Ok}
use Rattle.std.proofs.Common.{inl}
use Rattle.std.specs.Option.{option_map}
use Rattle.std.proofs.lemmas.Option.{slice_get_past}
use Rattle.world_devices.specs.declared.stop.StepFault.TheVariants as fault
use Rattle.sync_world.proofs.GoLaws.{same_leads}
use Rattle.sync_world.proofs.StepLaws.{leads_err, came_goes, ends_leads, fails_leads}
use Rattle.world_devices.specs.Devices.{DeviceValue}
use Rattle.world_devices.specs.Refusals.{RefusedBy, refuses_group}
use Rattle.sync_ids.specs.Values.{GroupValue}
use Rattle.sync_world.specs.Naming.{group_of}
use Rattle.sync_world.proofs.RefusingLaws.{by_same, done_same, with_both}
use Rattle.sync_world.proofs.RefusingLaws.{with_missing}
use Rattle.sync_rules.specs.declared.entries.Entry.TheVariants as entry
use Rattle.world_scripts.specs.declared.step.WorldStep.TheVariants as step
use Rattle.sync_world.proofs.DoingLaws.{added, added_in_vain, added_not, does_handed, made_as}
use Rattle.sync_world.proofs.DoingLaws.{made_unfilled}
use Rattle.sync_world.proofs.WireLaws.{get_at}
use Rattle.sync_world.proofs.stage.Stage.add_group.Goals as goal

pub returns-in_err-def-clause-goes : goal.returns-in_err-def-clause-goes
returns-in_err-def-clause-goes c = λ w s. same_leads w _ _ _ s

pub returns-then-d-len-clause-goes : goal.returns-then-d-len-clause-goes
returns-then-d-len-clause-goes c = λ w s. same_leads w _ _ _ s

pub returns-in_err-ran-clause-goes : goal.returns-in_err-ran-clause-goes
returns-in_err-ran-clause-goes c =
    let within : c.args.d < length c.args.self.now.devices.items = omega arith in
    let laws = c.cite_laws.ensures in
    λ w s. leads_err _ c.in_err-ran.field-0.0 w _ _ c.from_residual-in_err-ran.ensures.1
    (fails_leads laws.records laws.grows c.args.self.now.devices.items
    c.args.self.now.links.items c.args.d c.index_mut-device.result.now c.add_group.new.self
    within c.index_mut-device.ensures.value c.add_group.ensures.runs
    c.in_err-ran.field-0.0 (λ is. c.in_err-ran.ensures.same (ap (λ y. Err y) is)) w
    s)

pub returns-in_err-label-clause-goes : goal.returns-in_err-label-clause-goes
returns-in_err-label-clause-goes c =
    let within : c.args.d < length c.args.self.now.devices.items = omega arith in
    let laws = c.cite_laws.ensures in
    λ w s. leads_err _ fault.Memory w _ _ c.from_residual-in_err-label.ensures.1
    (ends_leads laws.records laws.grows c.args.self.now.devices.items
    c.args.self.now.links.items c.args.d c.index_mut-device.result.now c.add_group.new.self
    within c.index_mut-device.ensures.value c.add_group.ensures.runs _ w s)

pub returns-clause-goes : goal.returns-clause-goes
returns-clause-goes c =
    let within : c.args.d < length c.args.self.now.devices.items = omega arith in
    let laws = c.cite_laws.ensures in
    λ w s. came_goes laws.records laws.grows c.args.self.now.devices.items
    c.args.self.now.links.items c.args.d c.index_mut-device.result.now c.add_group.new.self
    within c.index_mut-device.ensures.value c.add_group.ensures.runs c.in_ok-ran.ran
    c.in_ok-ran.ensures.running c.in_ok-ran.ensures.links _ _ c.came.ensures.devices
    c.came.ensures.links w s

pub returns-then-d-len-clause-refused : goal.returns-then-d-len-clause-refused
returns-then-d-len-clause-refused c =
    by_same true _ _
    (with_missing (λ (def : GroupValue) (x : DeviceValue). refuses_group x.node def)
    (group_of c.args.kind c.args.descriptor.now)
    (slice_get c.args.self.now.devices.items c.args.d)
    (slice_get_past c.args.self.now.devices.items c.args.d (omega arith))) tt

pub returns-in_err-ran-clause-refused : goal.returns-in_err-ran-clause-refused
returns-in_err-ran-clause-refused c =
    let by : RefusedBy (refuses_group c.index_mut-device.result.now.node c.in_ok-def.def)
    c.from_residual-in_err-ran.result = search rules in
    by_same (refuses_group c.index_mut-device.result.now.node c.in_ok-def.def) _ _
    (with_both (λ (def : GroupValue) (x : DeviceValue). refuses_group x.node def)
    (group_of c.args.kind c.args.descriptor.now)
    (slice_get c.args.self.now.devices.items c.args.d) c.in_ok-def.def
    c.index_mut-device.result.now c.in_ok-def.ensures
    (get_at c.args.self.now.devices.items c.args.d c.index_mut-device.result.now (omega arith)
    c.index_mut-device.ensures.value)) by

pub returns-clause-refused : goal.returns-clause-refused
returns-clause-refused c =
    by_same (refuses_group c.index_mut-device.result.now.node c.in_ok-def.def) _ _
    (with_both (λ (def : GroupValue) (x : DeviceValue). refuses_group x.node def)
    (group_of c.args.kind c.args.descriptor.now)
    (slice_get c.args.self.now.devices.items c.args.d) c.in_ok-def.def
    c.index_mut-device.result.now c.in_ok-def.ensures
    (get_at c.args.self.now.devices.items c.args.d c.index_mut-device.result.now (omega arith)
    c.index_mut-device.ensures.value))
    (done_same (refuses_group c.index_mut-device.result.now.node c.in_ok-def.def) c.in_ok-ran.ran tt
    c.in_ok-ran.ensures.refused)

pub returns-in_err-ran-clause-does : goal.returns-in_err-ran-clause-does
returns-in_err-ran-clause-does c =
    let within : c.args.d < length c.args.self.now.devices.items = omega arith in
    added_not (step.Group c.args.d c.args.kind c.args.descriptor.now) c.args.self.now _
    (option_map (λ (def : GroupValue). entry.Group def)
    (group_of c.args.kind c.args.descriptor.now))
    (entry.Group c.in_ok-def.def) c.args.d c.index_mut-device.result.now c.add_group.new.self
    (λ came by. by)
    (made_as (λ (def : GroupValue). entry.Group def) (group_of c.args.kind c.args.descriptor.now)
    c.in_ok-def.def c.in_ok-def.ensures) within c.index_mut-device.ensures.value refl
    c.from_residual-in_err-ran.result c.in_err-ran.field-0.0 c.from_residual-in_err-ran.ensures.1
    c.in_err-ran.ensures.adds refl

pub returns-clause-does : goal.returns-clause-does
returns-clause-does c =
    let within : c.args.d < length c.args.self.now.devices.items = omega arith in
    record {
      does =
          added (step.Group c.args.d c.args.kind c.args.descriptor.now) c.args.self.now
          c.came.new.self
          (option_map (λ (def : GroupValue). entry.Group def)
          (group_of c.args.kind c.args.descriptor.now))
          (entry.Group c.in_ok-def.def) c.args.d c.index_mut-device.result.now
          c.add_group.new.self (λ came by. by)
          (made_as (λ (def : GroupValue). entry.Group def)
          (group_of c.args.kind c.args.descriptor.now) c.in_ok-def.def c.in_ok-def.ensures)
          within c.index_mut-device.ensures.value c.came.ensures.devices c.in_ok-ran.ran
          c.in_ok-ran.ensures.adds c.came.ensures.links;
      groups = c.came.ensures.groups ∙ c.in_ok-label.ensures.ok;
      posts = c.came.ensures.posts;
    }

pub returns-in_err-def-clause-does : goal.returns-in_err-def-clause-does
returns-in_err-def-clause-does c =
    does_handed (step.Group c.args.d c.args.kind c.args.descriptor.now) c.from_residual.result
    c.in_err-def.field-0.0 c.args.self.now c.args.self.now c.from_residual.ensures.1
    (made_unfilled _ (group_of c.args.kind c.args.descriptor.now) c.in_err-def.field-0.0
    c.in_err-def.ensures) (inl refl)

pub returns-in_err-label-clause-does : goal.returns-in_err-label-clause-does
returns-in_err-label-clause-does c =
    let within : c.args.d < length c.args.self.now.devices.items = omega arith in
    added_in_vain (step.Group c.args.d c.args.kind c.args.descriptor.now) c.args.self.now _
    (option_map (λ (def : GroupValue). entry.Group def)
    (group_of c.args.kind c.args.descriptor.now))
    (entry.Group c.in_ok-def.def) c.args.d c.index_mut-device.result.now c.add_group.new.self
    (λ came by. by)
    (made_as (λ (def : GroupValue). entry.Group def) (group_of c.args.kind c.args.descriptor.now)
    c.in_ok-def.def c.in_ok-def.ensures) within c.index_mut-device.ensures.value refl
    c.from_residual-in_err-label.result (Ok c.in_ok-ran.ran)
    c.from_residual-in_err-label.ensures.1 c.in_ok-ran.ensures.adds refl
