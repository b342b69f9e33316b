use Rattle.std.proofs.Common.{◌<◌, length, arith, ap, Err, rules, true, slice_get, refl, inl}
use Rattle.std.specs.Option.{option_map}
use Rattle.std.proofs.lemmas.Option.{slice_get_past}
use Rattle.sync_ids.specs.Ids.{group_id_of}
use Rattle.sync_ids.specs.Values.{GroupValue}
use Rattle.sync_world.proofs.GoLaws.{same_leads}
use Rattle.sync_world.proofs.StepLaws.{leads_err, came_goes, fails_leads}
use Rattle.world_devices.specs.Refusals.{RefusedBy, refuses_level}
use Rattle.sync_world.specs.Refusing.{group_labelled, lacks, refuses_with}
use Rattle.sync_world.proofs.RefusingLaws.{by_same, done_same, labelled_made}
use Rattle.sync_world.proofs.RefusingLaws.{share_past, share_refused, with_missing}
use Rattle.sync_rules.specs.declared.entries.Entry.TheVariants as entry
use Rattle.world_laws.specs.Worlds.{contact_for}
use Rattle.world_scripts.specs.declared.step.WorldStep.TheVariants as step
use Rattle.sync_world.specs.Naming.{group_of}
use Rattle.sync_world.proofs.DoingLaws.{added, added_not, does_handed, made_level, made_unfilled}
use Rattle.sync_world.proofs.WireLaws.{get_at}
use Rattle.sync_world.proofs.stage.Stage.share.Goals as goal

pub returns-in_err-ran-clause-goes : goal.returns-in_err-ran-clause-goes
returns-in_err-ran-clause-goes c =
    let within : c.args.d < length c.args.self.now.devices.items = omega arith in
    let laws = c.cite_laws.ensures in
    λ w s. leads_err _ c.in_err-ran.field-0.0 w _ _ c.from_residual-in_err-ran.ensures.1
    (fails_leads laws.records laws.grows c.args.self.now.devices.items
    c.args.self.now.links.items c.args.d c.index_mut-device.result.now c.set_level.new.self
    within c.index_mut-device.ensures.value c.set_level.ensures.runs
    c.in_err-ran.field-0.0 (λ is. c.in_err-ran.ensures.same (ap (λ y. Err y) is)) w
    s)

pub returns-clause-goes : goal.returns-clause-goes
returns-clause-goes c =
    let within : c.args.d < length c.args.self.now.devices.items = omega arith in
    let laws = c.cite_laws.ensures in
    λ w s. came_goes laws.records laws.grows c.args.self.now.devices.items
    c.args.self.now.links.items c.args.d c.index_mut-device.result.now c.set_level.new.self
    within c.index_mut-device.ensures.value c.set_level.ensures.runs c.in_ok-ran.ran
    c.in_ok-ran.ensures.running c.in_ok-ran.ensures.links _ _ c.came.ensures.devices
    c.came.ensures.links w s

pub returns-then-d-e-clause-goes : goal.returns-then-d-e-clause-goes
returns-then-d-e-clause-goes c = λ w s. same_leads w _ _ _ s

pub returns-in_default-clause-goes : goal.returns-in_default-clause-goes
returns-in_default-clause-goes c = λ w s. same_leads w _ _ _ s

pub returns-in_err-group_def-clause-goes : goal.returns-in_err-group_def-clause-goes
returns-in_err-group_def-clause-goes c = λ w s. same_leads w _ _ _ s

pub returns-then-d-len-clause-goes : goal.returns-then-d-len-clause-goes
returns-then-d-len-clause-goes c = λ w s. same_leads w _ _ _ s

pub returns-then-d-len-clause-refused : goal.returns-then-d-len-clause-refused
returns-then-d-len-clause-refused c known =
    by_same true _ _
    (share_past c.args.self.now.devices.items c.args.d c.args.e
    (refuses_with lacks (group_labelled (slice_get c.args.self.now.groups c.args.group))
    (slice_get c.args.self.now.devices.items c.args.d))
    (with_missing lacks (group_labelled (slice_get c.args.self.now.groups c.args.group))
    (slice_get c.args.self.now.devices.items c.args.d)
    (slice_get_past c.args.self.now.devices.items c.args.d (omega arith)))) tt

pub returns-in_err-ran-clause-refused : goal.returns-in_err-ran-clause-refused
returns-in_err-ran-clause-refused c known =
    let by : RefusedBy (refuses_level c.index_mut-device.result.now.node c.contact_for.result
    c.group_id-id.result) c.from_residual-in_err-ran.result = search rules in
    by_same (refuses_level c.index_mut-device.result.now.node c.contact_for.result
    c.group_id-id.result) _ _
    (share_refused c.args.self.now.devices.items c.args.d c.args.e c.contact_for.result
    c.group_id-id.result (group_labelled (slice_get c.args.self.now.groups c.args.group))
    c.in_ok-group_def.field-0 c.index_mut-device.result.now known c.if-d-e.false
    (omega arith) (omega arith) c.contact_for.ensures c.group_id-id.ensures
    (labelled_made (slice_get c.args.self.now.groups c.args.group) c.in-Some.kind
    c.in-Some.descriptor.now c.in_ok-group_def.field-0 c.in-Some.ensures
    c.in_ok-group_def.ensures)
    (get_at c.args.self.now.devices.items c.args.d c.index_mut-device.result.now (omega arith)
    c.index_mut-device.ensures.value)) by

pub returns-clause-refused : goal.returns-clause-refused
returns-clause-refused c known =
    by_same (refuses_level c.index_mut-device.result.now.node c.contact_for.result
    c.group_id-id.result) _ _
    (share_refused c.args.self.now.devices.items c.args.d c.args.e c.contact_for.result
    c.group_id-id.result (group_labelled (slice_get c.args.self.now.groups c.args.group))
    c.in_ok-group_def.field-0 c.index_mut-device.result.now known c.if-d-e.false
    (omega arith) (omega arith) c.contact_for.ensures c.group_id-id.ensures
    (labelled_made (slice_get c.args.self.now.groups c.args.group) c.in-Some.kind
    c.in-Some.descriptor.now c.in_ok-group_def.field-0 c.in-Some.ensures
    c.in_ok-group_def.ensures)
    (get_at c.args.self.now.devices.items c.args.d c.index_mut-device.result.now (omega arith)
    c.index_mut-device.ensures.value))
    (done_same (refuses_level c.index_mut-device.result.now.node c.contact_for.result
    c.group_id-id.result) c.in_ok-ran.ran tt c.in_ok-ran.ensures.refused)

pub returns-in_err-ran-clause-does : goal.returns-in_err-ran-clause-does
returns-in_err-ran-clause-does c =
    let within : c.args.d < length c.args.self.now.devices.items = omega arith in
    let labelled = group_labelled (slice_get c.args.self.now.groups c.args.group) in
    let named = made_level labelled c.in_ok-group_def.field-0 c.contact_for.result
    (contact_for c.args.d c.args.e) c.group_id-id.result c.args.level
    (labelled_made (slice_get c.args.self.now.groups c.args.group) c.in-Some.kind
    c.in-Some.descriptor.now c.in_ok-group_def.field-0 c.in-Some.ensures
    c.in_ok-group_def.ensures)
    c.contact_for.ensures c.group_id-id.ensures in
    added_not (step.Share c.args.d c.args.e c.args.group c.args.level) c.args.self.now _
    (option_map (λ (def : GroupValue).
    entry.Level (contact_for c.args.d c.args.e) (group_id_of def) c.args.level) labelled)
    (entry.Level c.contact_for.result c.group_id-id.result c.args.level) c.args.d
    c.index_mut-device.result.now c.set_level.new.self (λ came by. by) named within
    c.index_mut-device.ensures.value refl c.from_residual-in_err-ran.result
    c.in_err-ran.field-0.0 c.from_residual-in_err-ran.ensures.1 c.in_err-ran.ensures.adds refl

pub returns-clause-does : goal.returns-clause-does
returns-clause-does c =
    let within : c.args.d < length c.args.self.now.devices.items = omega arith in
    let labelled = group_labelled (slice_get c.args.self.now.groups c.args.group) in
    let named = made_level labelled c.in_ok-group_def.field-0 c.contact_for.result
    (contact_for c.args.d c.args.e) c.group_id-id.result c.args.level
    (labelled_made (slice_get c.args.self.now.groups c.args.group) c.in-Some.kind
    c.in-Some.descriptor.now c.in_ok-group_def.field-0 c.in-Some.ensures
    c.in_ok-group_def.ensures)
    c.contact_for.ensures c.group_id-id.ensures in
    record {
      does =
          added (step.Share c.args.d c.args.e c.args.group c.args.level) c.args.self.now
          c.came.new.self
          (option_map (λ (def : GroupValue).
          entry.Level (contact_for c.args.d c.args.e) (group_id_of def) c.args.level) labelled)
          (entry.Level c.contact_for.result c.group_id-id.result c.args.level) c.args.d
          c.index_mut-device.result.now c.set_level.new.self (λ came by. by) named within
          c.index_mut-device.ensures.value c.came.ensures.devices c.in_ok-ran.ran
          c.in_ok-ran.ensures.adds c.came.ensures.links;
      groups = c.came.ensures.groups;
      posts = c.came.ensures.posts;
    }

pub returns-in_err-group_def-clause-does : goal.returns-in_err-group_def-clause-does
returns-in_err-group_def-clause-does c =
    does_handed (step.Share c.args.d c.args.e c.args.group c.args.level) c.from_residual.result
    c.in_err-group_def.field-0.0 c.args.self.now c.args.self.now c.from_residual.ensures.1
    (made_unfilled _ (group_of c.in-Some.kind c.in-Some.descriptor.now)
    c.in_err-group_def.field-0.0 c.in_err-group_def.ensures) (inl refl)
