use Rattle.std.proofs.Common.{◌<◌, ◌∙◌, ◌++◌, ◌∷◌, [], ℕ, List, length, arith, ap, Err, rules, true}
use Rattle.std.proofs.Common.{slice_get, refl, inl}
use Rattle.std.specs.Option.{option_map}
use Rattle.std.proofs.lemmas.Option.{slice_get_past}
use Rattle.world_devices.specs.declared.stop.StepFault.TheVariants as fault
use Rattle.sync_world.proofs.GoLaws.{same_leads}
use Rattle.sync_world.proofs.StepLaws.{leads_err, came_goes, fails_leads}
use Rattle.world_devices.specs.Devices.{DeviceValue}
use Rattle.world_devices.specs.Refusals.{RefusedBy, refuses_message}
use Rattle.sync_ids.specs.Values.{MessageValue}
use Rattle.sync_world.specs.Posting.{message_for}
use Rattle.sync_world.proofs.RefusingLaws.{by_same, done_same, with_both}
use Rattle.sync_world.proofs.RefusingLaws.{with_missing}
use Rattle.sync_rules.specs.declared.entries.Entry.TheVariants as entry
use Rattle.world_scripts.specs.declared.step.WorldStep.TheVariants as step
use Rattle.sync_world.proofs.DoingLaws.{added, added_not, does_handed, made_as, made_post}
use Rattle.sync_world.proofs.DoingLaws.{made_unfilled}
use Rattle.sync_world.proofs.WireLaws.{get_at}
use Rattle.sync_world.proofs.stage.Stage.post.Goals as goal

pub returns-in_err-ran-clause-goes : goal.returns-in_err-ran-clause-goes
returns-in_err-ran-clause-goes c =
    let within : c.args.d < length c.args.self.now.devices.items = omega arith in
    let laws = c.cite_laws.ensures in
    λ w s. leads_err _ c.in_err-ran.field-0.0 w _ _ c.from_residual-in_err-ran.ensures.1
    (fails_leads laws.records laws.grows c.args.self.now.devices.items
    c.args.self.now.links.items c.args.d c.index_mut-device.result.now c.author.new.self
    within c.index_mut-device.ensures.value c.author.ensures.runs c.in_err-ran.field-0.0
    (λ is. c.in_err-ran.ensures.same (ap (λ y. Err y) is)) w s)

pub returns-clause-goes : goal.returns-clause-goes
returns-clause-goes c =
    let within : c.args.d < length c.args.self.now.devices.items = omega arith in
    let laws = c.cite_laws.ensures in
    λ w s. came_goes laws.records laws.grows c.args.self.now.devices.items
    c.args.self.now.links.items c.args.d c.index_mut-device.result.now c.author.new.self within
    c.index_mut-device.ensures.value c.author.ensures.runs c.in_ok-ran.ran
    c.in_ok-ran.ensures.running c.in_ok-ran.ensures.links _ _ c.came.ensures.devices
    c.came.ensures.links w s

pub returns-in_err-message-clause-goes : goal.returns-in_err-message-clause-goes
returns-in_err-message-clause-goes c = λ w s. same_leads w _ _ _ s

pub returns-in_err-reserve-clause-goes : goal.returns-in_err-reserve-clause-goes
returns-in_err-reserve-clause-goes c = λ w s. same_leads w _ _ _ s

pub returns-then-d-len-clause-goes : goal.returns-then-d-len-clause-goes
returns-then-d-len-clause-goes c = λ w s. same_leads w _ _ _ s

pub returns-then-d-len-clause-refused : goal.returns-then-d-len-clause-refused
returns-then-d-len-clause-refused c =
    by_same true _ _
    (with_missing (λ (m : MessageValue) (x : DeviceValue). refuses_message x.node m)
    (message_for c.args.self.now.groups c.args.self.now.posts.items c.args.group c.args.time
    c.args.parents.now c.args.text.now) (slice_get c.args.self.now.devices.items c.args.d)
    (slice_get_past c.args.self.now.devices.items c.args.d (omega arith))) tt

pub returns-in_err-ran-clause-refused : goal.returns-in_err-ran-clause-refused
returns-in_err-ran-clause-refused c =
    let by : RefusedBy (refuses_message c.index_mut-device.result.now.node c.in_ok-message.message)
    c.from_residual-in_err-ran.result = search rules in
    by_same (refuses_message c.index_mut-device.result.now.node c.in_ok-message.message) _ _
    (with_both (λ (m : MessageValue) (x : DeviceValue). refuses_message x.node m)
    (message_for c.args.self.now.groups c.args.self.now.posts.items c.args.group c.args.time
    c.args.parents.now c.args.text.now) (slice_get c.args.self.now.devices.items c.args.d)
    c.in_ok-message.message c.index_mut-device.result.now c.in_ok-message.ensures
    (get_at c.args.self.now.devices.items c.args.d c.index_mut-device.result.now (omega arith)
    c.index_mut-device.ensures.value)) by

pub returns-clause-refused : goal.returns-clause-refused
returns-clause-refused c =
    by_same (refuses_message c.index_mut-device.result.now.node c.in_ok-message.message) _ _
    (with_both (λ (m : MessageValue) (x : DeviceValue). refuses_message x.node m)
    (message_for c.args.self.now.groups c.args.self.now.posts.items c.args.group c.args.time
    c.args.parents.now c.args.text.now) (slice_get c.args.self.now.devices.items c.args.d)
    c.in_ok-message.message c.index_mut-device.result.now c.in_ok-message.ensures
    (get_at c.args.self.now.devices.items c.args.d c.index_mut-device.result.now (omega arith)
    c.index_mut-device.ensures.value))
    (done_same (refuses_message c.index_mut-device.result.now.node c.in_ok-message.message)
    c.in_ok-ran.ran tt c.in_ok-ran.ensures.refused)

pub returns-in_err-ran-clause-does : goal.returns-in_err-ran-clause-does
returns-in_err-ran-clause-does c =
    let within : c.args.d < length c.args.self.now.devices.items = omega arith in
    let message = message_for c.args.self.now.groups c.args.self.now.posts.items c.args.group
    c.args.time c.args.parents.now c.args.text.now in
    added_not (step.Post c.args.d c.args.group c.args.time c.args.parents.now c.args.text.now)
    c.args.self.now _ (option_map (λ (m : MessageValue). entry.Author m) message)
    (entry.Author c.in_ok-message.message) c.args.d c.index_mut-device.result.now
    c.author.new.self (λ came by. by)
    (made_as (λ (m : MessageValue). entry.Author m) message c.in_ok-message.message
    c.in_ok-message.ensures) within c.index_mut-device.ensures.value refl
    c.from_residual-in_err-ran.result c.in_err-ran.field-0.0 c.from_residual-in_err-ran.ensures.1
    c.in_err-ran.ensures.adds refl

pub returns-clause-does : goal.returns-clause-does
returns-clause-does c =
    let within : c.args.d < length c.args.self.now.devices.items = omega arith in
    let message = message_for c.args.self.now.groups c.args.self.now.posts.items c.args.group
    c.args.time c.args.parents.now c.args.text.now in
    record {
      does =
          added
          (step.Post c.args.d c.args.group c.args.time c.args.parents.now c.args.text.now)
          c.args.self.now c.came.new.self
          (option_map (λ (m : MessageValue). entry.Author m) message)
          (entry.Author c.in_ok-message.message) c.args.d c.index_mut-device.result.now
          c.author.new.self (λ came by. by)
          (made_as (λ (m : MessageValue). entry.Author m) message c.in_ok-message.message
          c.in_ok-message.ensures) within c.index_mut-device.ensures.value
          c.came.ensures.devices c.in_ok-ran.ran c.in_ok-ran.ensures.adds c.came.ensures.links;
      groups = c.came.ensures.groups;
      posts =
          made_post message c.in_ok-message.message c.args.self.now.posts.items _
          c.id_of-id.result c.in_ok-message.ensures c.id_of-id.ensures
          (c.came.ensures.posts
          ∙ (c.in_ok-push.ensures.items
          ∙ ap (λ (ids : List (List ℕ)). ids ++ c.id_of-id.result ∷ [])
          c.in_ok-reserve.ensures.items));
    }

pub returns-in_err-message-clause-does : goal.returns-in_err-message-clause-does
returns-in_err-message-clause-does c =
    does_handed (step.Post c.args.d c.args.group c.args.time c.args.parents.now c.args.text.now)
    c.from_residual.result c.in_err-message.field-0.0 c.args.self.now c.args.self.now
    c.from_residual.ensures.1
    (made_unfilled _
    (message_for c.args.self.now.groups c.args.self.now.posts.items c.args.group
    c.args.time c.args.parents.now c.args.text.now) c.in_err-message.field-0.0
    c.in_err-message.ensures) (inl refl)

pub returns-in_err-reserve-clause-does : goal.returns-in_err-reserve-clause-does
returns-in_err-reserve-clause-does c =
    does_handed (step.Post c.args.d c.args.group c.args.time c.args.parents.now c.args.text.now)
    c.from_residual-in_err-reserve.result fault.Memory c.args.self.now _
    c.from_residual-in_err-reserve.ensures.1 tt (inl refl)
