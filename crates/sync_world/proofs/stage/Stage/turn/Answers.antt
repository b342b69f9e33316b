use Rattle.std.proofs.Common.{◌<◌, false, length, map, arith, ap, refl, ◌∙◌, rules, None, Some}
use Rattle.world_devices.specs.declared.stop.StepFault.TheVariants as fault
use Rattle.world_links.specs.Links.{left_by}
use Rattle.sync_world.specs.Doing.{ground_of}
use Rattle.sync_world.specs.Turning.{look_link}
use Rattle.sync_world.proofs.GoLaws.{same_leads}
use Rattle.sync_world.proofs.StepLaws.{leads_both, none_of, turn_gone, turn_kept, leads_err}
use Rattle.sync_world.proofs.StepLaws.{leads_links, plan_fails, plans_from, turn_crashes, turn_ends}
use Rattle.sync_world.proofs.StepLaws.{turn_fails, turn_leads, written, written_twice}
use Rattle.world_devices.specs.Refusals.{RefusedBy}
use Rattle.sync_world.proofs.RefusingLaws.{by_same, found}
use Rattle.sync_world.proofs.TurningLaws.{turn_fault, turn_made, turns_handed}
use Rattle.sync_world.proofs.stage.Stage.turn.Goals as goal

pub returns-then-d-len-clause-goes : goal.returns-then-d-len-clause-goes
returns-then-d-len-clause-goes c = λ w s. same_leads w _ _ _ s

pub returns-in_err-plan_all-clause-goes : goal.returns-in_err-plan_all-clause-goes
returns-in_err-plan_all-clause-goes c =
    let within : c.args.d < length c.args.self.now.devices.items = omega arith in
    λ w s. leads_err _ fault.Memory w _ _ c.from_residual.ensures.1
    (plan_fails c.args.self.now.devices.items c.args.self.now.links.items _ c.args.d
    c.index_mut-device.result.now c.plan_all.new.device within c.index_mut-device.ensures.value
    c.plan_all.ensures.files w s)

pub returns-in_err-still-clause-goes : goal.returns-in_err-still-clause-goes
returns-in_err-still-clause-goes c =
    let within : c.args.d < length c.args.self.now.devices.items = omega arith in
    let laws = c.cite_laws.ensures in
    λ w s. leads_err _ c.in_err-still.field-0.0 w _ _ c.from_residual-in_err-still.ensures.1
    (turn_fails laws.records laws.grows c.args.self.now.devices.items c.args.self.now.links.items
    c.plan_all.new.links c.args.d c.index_mut-device.result.now c.plan_all.new.device
    c.turn.new.self within
    c.index_mut-device.ensures.value
    (plans_from c.args.d c.index_mut-device.result.now c.plan_all.new.device _ _ _
    c.as_mut_slice.ensures.value c.in_ok-plan_all.ensures.planned) c.turn.ensures.runs
    c.in_err-still.field-0.0 c.in_err-still.ensures.unrefused _ w s)

pub returns-in_default-clause-goes : goal.returns-in_default-clause-goes
returns-in_default-clause-goes c =
    let within : c.args.d < length c.args.self.now.devices.items = omega arith in
    let laws = c.cite_laws.ensures in
    λ w s. leads_both w _ _ _ _ c.came.ensures.devices (c.came.ensures.links
    ∙ ap (λ ls. map (left_by c.args.d) ls)
    (written c.args.self.now.links.len c.plan_all.new.links c.args.self.now.links.items
    (c.plan_all.ensures.number ∙ ap length c.as_mut_slice.ensures.value) (omega arith)))
    (turn_crashes laws.records laws.grows c.args.self.now.devices.items c.args.self.now.links.items
    c.plan_all.new.links c.args.d c.index_mut-device.result.now c.plan_all.new.device
    c.turn.new.self within
    c.index_mut-device.ensures.value
    (plans_from c.args.d c.index_mut-device.result.now c.plan_all.new.device _ _ _
    c.as_mut_slice.ensures.value c.in_ok-plan_all.ensures.planned) c.turn.ensures.runs
    c.in_ok-still.ensures.running
    (turn_gone c.in_ok-still.field-0 c.plan_all.new.device c.turn.new.self
    (none_of c.in_ok-still.field-0 (λ x e. c.in_default.not-Some x e))
    c.in_ok-still.ensures.links) w s)

pub returns-in_err-look_all-clause-goes : goal.returns-in_err-look_all-clause-goes
returns-in_err-look_all-clause-goes c =
    let within : c.args.d < length c.args.self.now.devices.items = omega arith in
    let laws = c.cite_laws.ensures in
    λ w s. leads_err _ fault.Memory w _ _ c.from_residual-in_err-look_all.ensures.1
    (turn_ends laws.records laws.grows c.args.self.now.devices.items c.args.self.now.links.items
    c.plan_all.new.links c.args.d c.index_mut-device.result.now c.plan_all.new.device
    c.turn.new.self within
    c.index_mut-device.ensures.value
    (plans_from c.args.d c.index_mut-device.result.now c.plan_all.new.device _ _ _
    c.as_mut_slice.ensures.value c.in_ok-plan_all.ensures.planned) c.turn.ensures.runs _ w
    s)

pub returns-clause-goes : goal.returns-clause-goes
returns-clause-goes c =
    let within : c.args.d < length c.args.self.now.devices.items = omega arith in
    let laws = c.cite_laws.ensures in
    λ w s. leads_links w false _ (map (look_link c.args.d c.turn.new.self) c.plan_all.new.links) _
    (written_twice c.args.self.now.links.len c.args.d c.turn.new.self c.args.self.now.links.items
    c.plan_all.new.links c.look_all.new.links c.as_mut_slice-2.result.now
    (c.plan_all.ensures.number ∙ ap length c.as_mut_slice.ensures.value) (omega arith)
    c.as_mut_slice-2.ensures.value c.in_ok-look_all.ensures)
    (turn_leads laws.records laws.grows c.args.self.now.devices.items c.args.self.now.links.items
    c.plan_all.new.links c.args.d c.index_mut-device.result.now c.plan_all.new.device
    c.turn.new.self within
    c.index_mut-device.ensures.value
    (plans_from c.args.d c.index_mut-device.result.now c.plan_all.new.device _ _ _
    c.as_mut_slice.ensures.value c.in_ok-plan_all.ensures.planned) c.turn.ensures.runs
    c.in_ok-still.ensures.running
    (turn_kept c.in_ok-still.field-0 c.in-Some.still c.plan_all.new.device
    c.turn.new.self c.in-Some.is c.in_ok-still.ensures.links)
    c.links_stand.ensures w s)

pub returns-in_err-still-clause-refused : goal.returns-in_err-still-clause-refused
returns-in_err-still-clause-refused c =
    let by : RefusedBy false c.from_residual-in_err-still.result = search rules in
    by_same false _ _ (found c.args.self.now.devices.items c.args.d c.index_mut-device.result.now
    (omega arith) c.index_mut-device.ensures.value) by

pub returns-in_default-clause-refused : goal.returns-in_default-clause-refused
returns-in_default-clause-refused c =
    by_same false _ _ (found c.args.self.now.devices.items c.args.d c.index_mut-device.result.now
    (omega arith) c.index_mut-device.ensures.value) tt

pub returns-clause-refused : goal.returns-clause-refused
returns-clause-refused c =
    by_same false _ _ (found c.args.self.now.devices.items c.args.d c.index_mut-device.result.now
    (omega arith) c.index_mut-device.ensures.value) tt

pub returns-in_err-plan_all-clause-turns : goal.returns-in_err-plan_all-clause-turns
returns-in_err-plan_all-clause-turns c =
    turns_handed c.args.d c.from_residual.result fault.Memory (ground_of c.args.self.now) _
    c.from_residual.ensures.1 tt

pub returns-in_err-still-clause-turns : goal.returns-in_err-still-clause-turns
returns-in_err-still-clause-turns c =
    let within : c.args.d < length c.args.self.now.devices.items = omega arith in
    turns_handed c.args.d c.from_residual-in_err-still.result c.in_err-still.field-0.0
    (ground_of c.args.self.now) _ c.from_residual-in_err-still.ensures.1
    (turn_fault c.args.d c.args.self.now.devices.items _ c.args.self.now.links.items
    c.as_mut_slice.result.now c.plan_all.new.links _ c.index_mut-device.result.now
    c.plan_all.new.device c.turn.new.self within
    c.index_mut-device.ensures.value c.as_mut_slice.ensures.value c.in_ok-plan_all.ensures.exact
    refl c.in_err-still.field-0.0 c.in_err-still.ensures.turns
    (written c.args.self.now.links.len c.plan_all.new.links c.args.self.now.links.items
    (c.plan_all.ensures.number ∙ ap length c.as_mut_slice.ensures.value) (omega arith)))

pub returns-in_default-clause-turns : goal.returns-in_default-clause-turns
returns-in_default-clause-turns c =
    let within : c.args.d < length c.args.self.now.devices.items = omega arith in
    turn_made c.args.d c.args.self.now.devices.items _ c.args.self.now.links.items
    c.as_mut_slice.result.now c.plan_all.new.links _ c.index_mut-device.result.now
    c.plan_all.new.device c.turn.new.self within
    c.index_mut-device.ensures.value c.as_mut_slice.ensures.value c.in_ok-plan_all.ensures.exact
    c.came.ensures.devices c.in_ok-still.field-0 None
    (none_of c.in_ok-still.field-0 (λ x e. c.in_default.not-Some x e))
    c.in_ok-still.ensures.turns (c.came.ensures.links ∙ ap (λ ls. map (left_by c.args.d) ls)
    (written c.args.self.now.links.len c.plan_all.new.links c.args.self.now.links.items
    (c.plan_all.ensures.number ∙ ap length c.as_mut_slice.ensures.value) (omega arith)))

pub returns-in_err-look_all-clause-turns : goal.returns-in_err-look_all-clause-turns
returns-in_err-look_all-clause-turns c =
    turns_handed c.args.d c.from_residual-in_err-look_all.result fault.Memory
    (ground_of c.args.self.now) _ c.from_residual-in_err-look_all.ensures.1 tt

pub returns-clause-turns : goal.returns-clause-turns
returns-clause-turns c =
    let within : c.args.d < length c.args.self.now.devices.items = omega arith in
    turn_made c.args.d c.args.self.now.devices.items _ c.args.self.now.links.items
    c.as_mut_slice.result.now c.plan_all.new.links _ c.index_mut-device.result.now
    c.plan_all.new.device c.turn.new.self within
    c.index_mut-device.ensures.value c.as_mut_slice.ensures.value c.in_ok-plan_all.ensures.exact
    refl c.in_ok-still.field-0 (Some c.in-Some.still) c.in-Some.is c.in_ok-still.ensures.turns (
      c.links_stand.ensures,
      written_twice c.args.self.now.links.len c.args.d c.turn.new.self
          c.args.self.now.links.items c.plan_all.new.links c.look_all.new.links
          c.as_mut_slice-2.result.now
          (c.plan_all.ensures.number ∙ ap length c.as_mut_slice.ensures.value) (omega arith)
          c.as_mut_slice-2.ensures.value c.in_ok-look_all.ensures,
    )
