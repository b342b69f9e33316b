use Rattle.std.proofs.Common.{◌<◌, false, length, map, arith, ap, subst, sym, Err, ◌∙◌, rules}
use Rattle.std.proofs.Common.{slice_get, refl}
use Rattle.std.specs.Prelude.{slice_set}
use Rattle.world_devices.specs.declared.stop.StepFault.TheVariants as fault
use Rattle.sync_world.specs.Staging.{HasFreshEnd, attached_at}
use Rattle.sync_world.specs.Doing.{ground_of}
use Rattle.sync_world.specs.Turning.{look_link}
use Rattle.sync_world.proofs.GoLaws.{same_leads}
use Rattle.sync_world.proofs.StepLaws.{attach_added, attach_gone, begins_leads, begun_to}
use Rattle.sync_world.proofs.StepLaws.{begun_written, none_of, ends_leads, fails_leads, fresh_stays}
use Rattle.sync_world.proofs.StepLaws.{gone_goes, leads_err, leads_links}
use Rattle.world_devices.specs.Refusals.{RefusedBy, refuses_link}
use Rattle.sync_world.proofs.RefusingLaws.{attach_at, by_same, was_allowed}
use Rattle.sync_world.proofs.TurningLaws.{attach_broken, attach_done, attach_fault, attaches_handed}
use Rattle.sync_world.proofs.WireLaws.{get_at}
use Rattle.sync_world.proofs.stage.Stage.attach.Goals as goal

pub returns-then-d-len-clause-goes : goal.returns-then-d-len-clause-goes
returns-then-d-len-clause-goes c = λ far same fresh w s. same_leads w _ _ _ s

pub returns-in_err-session-clause-goes : goal.returns-in_err-session-clause-goes
returns-in_err-session-clause-goes c =
    let within : c.args.d < length c.args.self.now.devices.items = omega arith in
    let laws = c.cite_laws.ensures in
    λ far same fresh w s. leads_err _ c.in_err-session.field-0.0 w _ _ c.from_residual.ensures.1
    (fails_leads laws.records laws.grows c.args.self.now.devices.items c.args.self.now.links.items
    c.args.d c.index_mut-device.result.now c.attach.new.self within
    c.index_mut-device.ensures.value c.attach.ensures.runs c.in_err-session.field-0.0 (λ is.
    c.in_err-session.ensures.same (ap (λ y. Err y) is)) w s)

pub returns-in_default-clause-goes : goal.returns-in_default-clause-goes
returns-in_default-clause-goes c =
    let within : c.args.d < length c.args.self.now.devices.items = omega arith in
    let laws = c.cite_laws.ensures in
    λ far same fresh w s.
    gone_goes laws.records laws.grows c.args.self.now.devices.items c.args.self.now.links.items
    c.args.d c.index_mut-device.result.now c.attach.new.self within
    c.index_mut-device.ensures.value c.attach.ensures.runs c.in_ok-session.ensures.running
    (attach_gone c.args.plan.now.contact c.in_ok-session.field-0 c.index_mut-device.result.now
    c.attach.new.self (none_of c.in_ok-session.field-0 (λ x e. c.in_default.not-Some x e))
    c.in_ok-session.ensures.links) _ _ c.came.ensures.devices c.came.ensures.links w s

pub returns-in_err-look_all-clause-goes : goal.returns-in_err-look_all-clause-goes
returns-in_err-look_all-clause-goes c =
    let within : c.args.d < length c.args.self.now.devices.items = omega arith in
    let laws = c.cite_laws.ensures in
    λ far same fresh w s.
    leads_err _ fault.Memory w _ _ c.from_residual-in_err-look_all.ensures.1
    (ends_leads laws.records laws.grows c.args.self.now.devices.items
    c.args.self.now.links.items c.args.d c.index_mut-device.result.now c.attach.new.self
    within
    c.index_mut-device.ensures.value c.attach.ensures.runs _ w s)

pub returns-clause-goes : goal.returns-clause-goes
returns-clause-goes c =
    let within : c.args.d < length c.args.self.now.devices.items = omega arith in
    let laws = c.cite_laws.ensures in
    let last = begun_written c.args.self.now.links.len c.args.d c.links-at.result c.in-Some.session
    c.args.link c.attach.new.self c.args.self.now.links.items c.as_mut_slice.result.now
    c.begin_at.new.links c.as_mut_slice-2.result.now c.look_all.new.links
    c.as_mut_slice.ensures.value (omega arith) c.begin_at.ensures c.as_mut_slice-2.ensures.value
    c.in_ok-look_all.ensures in
    λ far same fresh w s.
    leads_links w false _
    (map (look_link c.args.d c.attach.new.self)
    (slice_set c.args.self.now.links.items c.args.link
    (attached_at c.args.d c.index_mut-device.result.now.links c.in-Some.session
    fresh.link))) _
    (last ∙ begun_to c.args.self.now.links.items c.args.d c.links-at.result
    c.index_mut-device.result.now.links c.in-Some.session c.args.link c.attach.new.self
    fresh.link c.links-at.ensures fresh.stands)
    (begins_leads laws.records laws.grows c.args.self.now.devices.items c.args.self.now.links.items
    c.args.d c.index_mut-device.result.now c.attach.new.self within
    c.index_mut-device.ensures.value c.attach.ensures.runs far c.args.link c.in-Some.session
    c.args.plan.now.contact c.in_ok-session.ensures.running
    (attach_added c.args.plan.now.contact c.in_ok-session.field-0 c.in-Some.session
    c.index_mut-device.result.now c.attach.new.self c.in-Some.is c.in_ok-session.ensures.links)
    same c.links_stand.ensures fresh w s)

pub returns-clause-fresh : goal.returns-clause-fresh
returns-clause-fresh c =
    let last = begun_written c.args.self.now.links.len c.args.d c.links-at.result c.in-Some.session
    c.args.link c.attach.new.self c.args.self.now.links.items c.as_mut_slice.result.now
    c.begin_at.new.links c.as_mut_slice-2.result.now c.look_all.new.links
    c.as_mut_slice.ensures.value (omega arith) c.begin_at.ensures c.as_mut_slice-2.ensures.value
    c.in_ok-look_all.ensures in
    λ k far apart fresh done. subst (λ ls. HasFreshEnd k far c.args.link ls) (sym last)
    (fresh_stays k far c.args.d c.links-at.result c.in-Some.session c.args.link c.attach.new.self
    c.args.self.now.links.items apart fresh)

pub returns-in_err-session-clause-refused : goal.returns-in_err-session-clause-refused
returns-in_err-session-clause-refused c =
    let by : RefusedBy (refuses_link c.index_mut-device.result.now.node
    c.index_mut-device.result.now.links c.args.plan.now.contact) c.from_residual.result =
    search rules in
    by_same (refuses_link c.index_mut-device.result.now.node c.index_mut-device.result.now.links
    c.args.plan.now.contact) _ _
    (attach_at c.args.plan.now.contact (slice_get c.args.self.now.devices.items c.args.d)
    c.index_mut-device.result.now
    (get_at c.args.self.now.devices.items c.args.d c.index_mut-device.result.now
    (omega arith) c.index_mut-device.ensures.value)) by

pub returns-in_default-clause-refused : goal.returns-in_default-clause-refused
returns-in_default-clause-refused c =
    by_same false _ _
    (attach_at c.args.plan.now.contact (slice_get c.args.self.now.devices.items c.args.d)
    c.index_mut-device.result.now
    (get_at c.args.self.now.devices.items c.args.d c.index_mut-device.result.now
    (omega arith) c.index_mut-device.ensures.value)
    ∙ was_allowed (refuses_link c.index_mut-device.result.now.node
    c.index_mut-device.result.now.links c.args.plan.now.contact) _
    c.in_ok-session.ensures.refused) tt

pub returns-clause-refused : goal.returns-clause-refused
returns-clause-refused c =
    by_same false _ _
    (attach_at c.args.plan.now.contact (slice_get c.args.self.now.devices.items c.args.d)
    c.index_mut-device.result.now
    (get_at c.args.self.now.devices.items c.args.d c.index_mut-device.result.now
    (omega arith) c.index_mut-device.ensures.value)
    ∙ was_allowed (refuses_link c.index_mut-device.result.now.node
    c.index_mut-device.result.now.links c.args.plan.now.contact) _
    c.in_ok-session.ensures.refused) tt

pub returns-in_err-session-clause-attaches : goal.returns-in_err-session-clause-attaches
returns-in_err-session-clause-attaches c =
    let within : c.args.d < length c.args.self.now.devices.items = omega arith in
    attaches_handed c.args.d c.args.link c.args.plan.now c.args.nonce c.from_residual.result
    c.in_err-session.field-0.0 (ground_of c.args.self.now) _ c.from_residual.ensures.1
    (attach_fault c.args.d c.args.link c.args.plan.now c.args.nonce c.args.self.now.devices.items _
    c.args.self.now.links.items _ c.index_mut-device.result.now c.attach.new.self within
    c.index_mut-device.ensures.value refl c.in_err-session.field-0.0
    c.in_err-session.ensures.attaches refl)

pub returns-in_default-clause-attaches : goal.returns-in_default-clause-attaches
returns-in_default-clause-attaches c =
    let within : c.args.d < length c.args.self.now.devices.items = omega arith in
    attach_broken c.args.d c.args.link c.args.plan.now c.args.nonce c.args.self.now.devices.items _
    c.args.self.now.links.items _ c.index_mut-device.result.now c.attach.new.self within
    c.index_mut-device.ensures.value c.came.ensures.devices c.in_ok-session.field-0
    (none_of c.in_ok-session.field-0 (λ x e. c.in_default.not-Some x e))
    c.in_ok-session.ensures.attaches c.came.ensures.links

pub returns-in_err-look_all-clause-attaches : goal.returns-in_err-look_all-clause-attaches
returns-in_err-look_all-clause-attaches c =
    attaches_handed c.args.d c.args.link c.args.plan.now c.args.nonce
    c.from_residual-in_err-look_all.result fault.Memory (ground_of c.args.self.now) _
    c.from_residual-in_err-look_all.ensures.1 tt

pub returns-clause-attaches : goal.returns-clause-attaches
returns-clause-attaches c =
    let within : c.args.d < length c.args.self.now.devices.items = omega arith in
    let written = begun_written c.args.self.now.links.len c.args.d c.links-at.result
    c.in-Some.session c.args.link c.attach.new.self c.args.self.now.links.items
    c.as_mut_slice.result.now c.begin_at.new.links c.as_mut_slice-2.result.now
    c.look_all.new.links c.as_mut_slice.ensures.value (omega arith) c.begin_at.ensures
    c.as_mut_slice-2.ensures.value c.in_ok-look_all.ensures in (
      c.in-Some.session,
      attach_done c.args.d c.args.link c.args.plan.now c.args.nonce
          c.args.self.now.devices.items _ c.args.self.now.links.items _
          c.index_mut-device.result.now c.attach.new.self within
          c.index_mut-device.ensures.value refl c.in_ok-session.field-0 c.in-Some.session
          c.links-at.result c.in-Some.is c.in_ok-session.ensures.attaches c.links_stand.ensures
          c.links-at.ensures written,
    )
