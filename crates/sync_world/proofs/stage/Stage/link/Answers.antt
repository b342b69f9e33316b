use Rattle.std.proofs.Common.{List, None, ◌∙◌, false, ap, sym, slice_get, subst}
use Rattle.world_devices.specs.declared.stop.Ran.{Ran}
use Rattle.sync_world.proofs.GoLaws.{same_leads}
use Rattle.sync_world.proofs.RestLaws.{goes_then, passed_on}
use Rattle.sync_world.proofs.StepLaws.{was_done}
use Rattle.world_devices.specs.Devices.{DeviceValue}
use Rattle.world_devices.specs.Refusals.{RefusedBy}
use Rattle.sync_world.proofs.RefusingLaws.{attach_passes, link_open}
use Rattle.sync_world.proofs.RefusingLaws.{never}
use Rattle.sync_world.specs.Doing.{ground_of}
use Rattle.world_scripts.specs.declared.step.WorldStep.TheVariants as step
use Rattle.sync_world.proofs.DoingLaws.{does_handed, memory_only}
use Rattle.sync_world.proofs.TurningLaws.{both_linked, far_full, near_crashed, near_full, plan_is}
use Rattle.sync_world.proofs.stage.Stage.link.Goals as goal

pub returns-then-d-e-clause-goes : goal.returns-then-d-e-clause-goes
returns-then-d-e-clause-goes c = λ w s. same_leads w _ _ _ s

pub returns-in_err-attach-clause-goes : goal.returns-in_err-attach-clause-goes
returns-in_err-attach-clause-goes c =
    passed_on Ran _ c.args.self.now c.attach.new.self c.from_residual-in_err-attach.result
    c.in_err-attach.field-0.0 c.from_residual-in_err-attach.ensures.1
    (goes_then _ c.args.self.now c.dial.new.self c.attach.new.self c.in_ok-link.ensures.goes
    (c.in_err-attach.ensures.goes c.args.e c.plan_for-near.ensures.contact
    c.in_ok-link.ensures.fresh))

pub returns-in-Crashed-clause-goes : goal.returns-in-Crashed-clause-goes
returns-in-Crashed-clause-goes c =
    goes_then false c.args.self.now c.dial.new.self c.attach.new.self c.in_ok-link.ensures.goes
    (c.in_ok-attach.ensures.goes c.args.e c.plan_for-near.ensures.contact
    c.in_ok-link.ensures.fresh)

pub returns-in_err-attach-2-clause-goes : goal.returns-in_err-attach-2-clause-goes
returns-in_err-attach-2-clause-goes c =
    let first = goes_then false c.args.self.now c.dial.new.self c.attach.new.self
    c.in_ok-link.ensures.goes
    (c.in_ok-attach.ensures.goes c.args.e c.plan_for-near.ensures.contact
    c.in_ok-link.ensures.fresh) in
    let fresh = c.in_ok-attach.ensures.fresh c.args.e c.args.d (λ same. c.if-d-e.false (sym same))
    c.in_ok-link.ensures.other (was_done c.in_ok-attach.field-0 c.in-Done.is) in
    passed_on Ran _ c.args.self.now c.attach-2.new.self c.from_residual-in_err-attach-2.result
    c.in_err-attach-2.field-0.0 c.from_residual-in_err-attach-2.ensures.1
    (goes_then _ c.args.self.now c.attach.new.self c.attach-2.new.self first
    (c.in_err-attach-2.ensures.goes c.args.d c.plan_for-far.ensures.contact fresh))

pub returns-clause-goes : goal.returns-clause-goes
returns-clause-goes c =
    let first = goes_then false c.args.self.now c.dial.new.self c.attach.new.self
    c.in_ok-link.ensures.goes
    (c.in_ok-attach.ensures.goes c.args.e c.plan_for-near.ensures.contact
    c.in_ok-link.ensures.fresh) in
    let fresh = c.in_ok-attach.ensures.fresh c.args.e c.args.d (λ same. c.if-d-e.false (sym same))
    c.in_ok-link.ensures.other (was_done c.in_ok-attach.field-0 c.in-Done.is) in
    goes_then false c.args.self.now c.attach.new.self c.attach-2.new.self first
    (c.in_ok-attach-2.ensures.goes c.args.d c.plan_for-far.ensures.contact fresh)

pub returns-in_err-attach-clause-refused : goal.returns-in_err-attach-clause-refused
returns-in_err-attach-clause-refused c = λ known.
    let near = sym c.has_room.ensures.exact ∙ c.if-not-has_room.false in
    let far = sym c.has_room-else-not-has_room.ensures.exact ∙ c.if-not-has_room-2.false in
    subst (λ b. RefusedBy b c.from_residual-in_err-attach.result)
    (sym (link_open c.args.d c.args.e c.args.latency _ _ c.if-d-e.false c.if-latency-eq0.false
    near far))
    (attach_passes c.args.self.now.devices.items c.dial.new.self.devices.items c.args.d
    c.args.e c.plan_for-near.result.contact c.in_err-attach.field-0.0
    c.from_residual-in_err-attach.result known c.if-d-e.false
    (c.has_room.ensures.within c.if-not-has_room.false)
    (c.has_room-else-not-has_room.ensures.within c.if-not-has_room-2.false)
    (sym c.has_room.ensures.exact ∙ c.if-not-has_room.false) c.plan_for-near.ensures.contact
    (ap (λ (l : List DeviceValue). slice_get l c.args.d) c.in_ok-link.ensures.devices)
    c.in_err-attach.ensures.refused c.from_residual-in_err-attach.ensures.1)

pub returns-in_err-attach-clause-same : goal.returns-in_err-attach-clause-same
returns-in_err-attach-clause-same c = λ known is.
    let passes = attach_passes c.args.self.now.devices.items c.dial.new.self.devices.items c.args.d
    c.args.e c.plan_for-near.result.contact c.in_err-attach.field-0.0
    c.from_residual-in_err-attach.result known c.if-d-e.false
    (c.has_room.ensures.within c.if-not-has_room.false)
    (c.has_room-else-not-has_room.ensures.within c.if-not-has_room-2.false)
    (sym c.has_room.ensures.exact ∙ c.if-not-has_room.false) c.plan_for-near.ensures.contact
    (ap (λ (l : List DeviceValue). slice_get l c.args.d) c.in_ok-link.ensures.devices)
    c.in_err-attach.ensures.refused c.from_residual-in_err-attach.ensures.1 in
    absurd (never c.from_residual-in_err-attach.result passes is)

pub returns-in_err-attach-2-clause-refused : goal.returns-in_err-attach-2-clause-refused
returns-in_err-attach-2-clause-refused c = λ known.
    let near = sym c.has_room.ensures.exact ∙ c.if-not-has_room.false in
    let far = sym c.has_room-else-not-has_room.ensures.exact ∙ c.if-not-has_room-2.false in
    subst (λ b. RefusedBy b c.from_residual-in_err-attach-2.result)
    (sym (link_open c.args.d c.args.e c.args.latency _ _ c.if-d-e.false c.if-latency-eq0.false
    near far))
    (attach_passes c.args.self.now.devices.items c.attach.new.self.devices.items c.args.e
    c.args.d c.plan_for-far.result.contact c.in_err-attach-2.field-0.0
    c.from_residual-in_err-attach-2.result known (λ same. c.if-d-e.false (sym same))
    (c.has_room-else-not-has_room.ensures.within c.if-not-has_room-2.false)
    (c.has_room.ensures.within c.if-not-has_room.false)
    (sym c.has_room-else-not-has_room.ensures.exact ∙ c.if-not-has_room-2.false)
    c.plan_for-far.ensures.contact
    (c.in_ok-attach.ensures.others c.args.e (λ same. c.if-d-e.false (sym same))
    ∙ ap (λ (l : List DeviceValue). slice_get l c.args.e) c.in_ok-link.ensures.devices)
    c.in_err-attach-2.ensures.refused c.from_residual-in_err-attach-2.ensures.1)

pub returns-in_err-attach-2-clause-same : goal.returns-in_err-attach-2-clause-same
returns-in_err-attach-2-clause-same c = λ known is.
    let passes = attach_passes c.args.self.now.devices.items c.attach.new.self.devices.items
    c.args.e
    c.args.d c.plan_for-far.result.contact c.in_err-attach-2.field-0.0
    c.from_residual-in_err-attach-2.result known (λ same. c.if-d-e.false (sym same))
    (c.has_room-else-not-has_room.ensures.within c.if-not-has_room-2.false)
    (c.has_room.ensures.within c.if-not-has_room.false)
    (sym c.has_room-else-not-has_room.ensures.exact ∙ c.if-not-has_room-2.false)
    c.plan_for-far.ensures.contact
    (c.in_ok-attach.ensures.others c.args.e (λ same. c.if-d-e.false (sym same))
    ∙ ap (λ (l : List DeviceValue). slice_get l c.args.e) c.in_ok-link.ensures.devices)
    c.in_err-attach-2.ensures.refused c.from_residual-in_err-attach-2.ensures.1 in
    absurd (never c.from_residual-in_err-attach-2.result passes is)

pub returns-in_err-link-clause-does : goal.returns-in_err-link-clause-does
returns-in_err-link-clause-does c =
    let made = step.Link c.args.d c.args.e c.args.mode c.args.latency in
    does_handed made c.from_residual.result c.in_err-link.field-0.0 c.args.self.now _
    c.from_residual.ensures.1
    (memory_only _ c.in_err-link.field-0.0 c.in_err-link.ensures.dials) tt

pub returns-in_err-attach-clause-does : goal.returns-in_err-attach-clause-does
returns-in_err-attach-clause-does c =
    let made = step.Link c.args.d c.args.e c.args.mode c.args.latency in
    does_handed made c.from_residual-in_err-attach.result c.in_err-attach.field-0.0 c.args.self.now
    _ c.from_residual-in_err-attach.ensures.1
    (near_full c.args.d c.args.e c.args.mode c.args.latency (ground_of c.args.self.now)
    (ground_of c.dial.new.self) c.in_ok-link.link c.plan_for-near.result c.nonce_for.result
    c.in_ok-link.ensures.dials
    (plan_is c.plan_for-near.result c.args.d c.args.e c.args.mode c.args.latency
    c.plan_for-near.ensures.contact c.plan_for-near.ensures.mode
    c.plan_for-near.ensures.latency) c.nonce_for.ensures.value
    c.in_err-attach.field-0.0 (ground_of c.attach.new.self) c.in_err-attach.ensures.attaches) tt

pub returns-in-Crashed-clause-does : goal.returns-in-Crashed-clause-does
returns-in-Crashed-clause-does c = record {
  does = (
    None,
    near_crashed c.args.d c.args.e c.args.mode c.args.latency (ground_of c.args.self.now)
        (ground_of c.dial.new.self) c.in_ok-link.link c.plan_for-near.result c.nonce_for.result
        c.in_ok-link.ensures.dials
        (plan_is c.plan_for-near.result c.args.d c.args.e c.args.mode c.args.latency
        c.plan_for-near.ensures.contact c.plan_for-near.ensures.mode
        c.plan_for-near.ensures.latency) c.nonce_for.ensures.value
        c.in_ok-attach.field-0 (ground_of c.attach.new.self) c.in-Crashed.is
        c.in_ok-attach.ensures.attaches,
  );
  groups = c.in_ok-attach.ensures.groups ∙ c.in_ok-link.ensures.groups;
  posts = c.in_ok-attach.ensures.posts ∙ c.in_ok-link.ensures.posts;
}

pub returns-in_err-attach-2-clause-does : goal.returns-in_err-attach-2-clause-does
returns-in_err-attach-2-clause-does c =
    let made = step.Link c.args.d c.args.e c.args.mode c.args.latency in
    does_handed made c.from_residual-in_err-attach-2.result c.in_err-attach-2.field-0.0
    c.args.self.now _ c.from_residual-in_err-attach-2.ensures.1
    (far_full c.args.d c.args.e c.args.mode c.args.latency (ground_of c.args.self.now)
    (ground_of c.dial.new.self) c.in_ok-link.link c.plan_for-near.result c.nonce_for.result
    c.in_ok-link.ensures.dials
    (plan_is c.plan_for-near.result c.args.d c.args.e c.args.mode c.args.latency
    c.plan_for-near.ensures.contact c.plan_for-near.ensures.mode
    c.plan_for-near.ensures.latency) c.nonce_for.ensures.value
    c.in_ok-attach.field-0 (ground_of c.attach.new.self) c.plan_for-far.result c.in-Done.is
    c.in_ok-attach.ensures.attaches
    (plan_is c.plan_for-far.result c.args.e c.args.d c.args.mode c.args.latency
    c.plan_for-far.ensures.contact c.plan_for-far.ensures.mode c.plan_for-far.ensures.latency)
    c.in_err-attach-2.field-0.0 (ground_of c.attach-2.new.self)
    c.in_err-attach-2.ensures.attaches) tt

pub returns-clause-does : goal.returns-clause-does
returns-clause-does c = record {
  does =
      both_linked c.args.d c.args.e c.args.mode c.args.latency (ground_of c.args.self.now)
      (ground_of c.dial.new.self) c.in_ok-link.link c.plan_for-near.result c.nonce_for.result
      c.in_ok-link.ensures.dials
      (plan_is c.plan_for-near.result c.args.d c.args.e c.args.mode c.args.latency
      c.plan_for-near.ensures.contact c.plan_for-near.ensures.mode
      c.plan_for-near.ensures.latency) c.nonce_for.ensures.value
      c.in_ok-attach.field-0 (ground_of c.attach.new.self) c.plan_for-far.result c.in-Done.is
      c.in_ok-attach.ensures.attaches
      (plan_is c.plan_for-far.result c.args.e c.args.d c.args.mode c.args.latency
      c.plan_for-far.ensures.contact c.plan_for-far.ensures.mode c.plan_for-far.ensures.latency)
      c.in_ok-attach-2.field-0 (ground_of c.attach-2.new.self)
      c.in_ok-attach-2.ensures.attaches;
  groups =
      c.in_ok-attach-2.ensures.groups
      ∙ (c.in_ok-attach.ensures.groups ∙ c.in_ok-link.ensures.groups);
  posts =
      c.in_ok-attach-2.ensures.posts ∙ (c.in_ok-attach.ensures.posts ∙ c.in_ok-link.ensures.posts);
}
