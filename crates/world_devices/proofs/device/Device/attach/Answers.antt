use Rattle.std.proofs.Common.{◌+◌, [], ap, inl, inr, refl, sym, ◌∙◌, subst, arith, Some, None}
use Rattle.outside.specs.MemHost.{MemHostValue}
use Rattle.sync_store.specs.Store.{IsStore, StoreValue}
use Rattle.sync_node.proofs.StartActs.{free_next}
use Rattle.world_devices.specs.Devices.{DeviceValue}
use Rattle.world_devices.specs.Doing.{DeviceBeginsSession, FullAtBeginning, HasBegunOnLink, OfNodes}
use Rattle.world_devices.specs.Doing.{next_session}
use Rattle.world_devices.specs.Linking.{LinksByAttach}
use Rattle.world_devices.proofs.CallLaws.{adds_link, device_leaves, device_well, did_well}
use Rattle.world_devices.proofs.CallLaws.{one_longer, ready_store, runs_none}
use Rattle.world_devices.proofs.FullLaws.{full_beginning}
use Rattle.world_devices.proofs.RunLaws.{BeginStops, begin_broke, begin_done}
use Rattle.world_devices.proofs.RunningLaws.{begun_few, running_of}
use Rattle.world_devices.proofs.TurnLaws.{beginning_breaks_off, comes_broken, comes_done}
use Rattle.world_devices.proofs.TurnLaws.{has_begun_on, link_unrefused, never_refused, of_node}
use Rattle.world_devices.proofs.TurnLaws.{of_nodes}
use Rattle.world_devices.proofs.device.Device.attach.Goals as goal

pub invariant_of-self-in-Ok : goal.invariant_of-self-in-Ok
invariant_of-self-in-Ok c =
    let n' = c.attach.new.self in
    let session = next_session c.args.plan.now c.args.nonce c.in-Some-node.node in
    let did = did_well c.cite_laws.ensures c.self.view_is _ n' c.attach.new.host c.in-Some-node.is c.self.invariant.0
    c.attach.ensures.goes c.attach.ensures.may c.in-Ok.ensures.answers.opened
    (λ run. begin_done _ n' _ c.attach.new.host _ run session refl c.attach.ensures.goes.node
    (c.in-Ok.ensures.went run.unclosed)) in
    device_well _ _ n' c.attach.new.host did (c.self.inside.links + 1)
    (omega (arith, did.run.linked, one_longer _ _ c.in-Ok.ensures.links)) (omega arith)
    c.self.invariant (omega (arith, c.if-self-ge-LINKS.false))

pub invariant_of-self-in-Err : goal.invariant_of-self-in-Err
invariant_of-self-in-Err c =
    let session = next_session c.args.plan.now c.args.nonce c.in-Some-node.node in
    let run = running_of _ _ _ _ c.in-Some-node.is c.self.invariant.0 in
    let left = device_leaves c.cite_laws.ensures _ _ _ c.attach.new.host _ c.in-Some-node.is run
    (begin_broke _ c.attach.new.self _ c.attach.new.host _ run session _ (c.in-Err.ensures.stopped run.unclosed)) in
    (tt, left.keeps [] c.self.invariant.1, c.self.invariant.2)

pub attach-requires-clause-begun : goal.attach-requires-clause-begun
attach-requires-clause-begun c =
    let was = sym (ap (λ (d : DeviceValue). d.node) c.self.view_is) ∙ c.in-Some-node.is in
    let own = ready_store c.args.self.now.node c.in-Some-node.node c.in-Some.store.now was c.in-Some.ensures in
    begun_few c.in-Some-node.node c.self.inside.host c.self.inside.links (subst IsStore own c.end-end.ensures.numbers) c.self.invariant.1
    (running_of c.self.inside.node c.in-Some-node.node c.self.inside.host c.self.inside.links c.in-Some-node.is c.self.invariant.0)

pub returns-in_default-clause-runs : goal.returns-in_default-clause-runs
returns-in_default-clause-runs c = runs_none c.args.self.now

pub returns-then-self-ge-LINKS-clause-runs : goal.returns-then-self-ge-LINKS-clause-runs
returns-then-self-ge-LINKS-clause-runs c = runs_none c.args.self.now

-- the session began
pub returns-in-Ok : goal.returns-in-Ok
returns-in-Ok c =
    let plan = c.args.plan.now in
    let n' = c.attach.new.self in
    let h' = c.attach.new.host in
    let session = next_session plan c.args.nonce c.in-Some-node.node in
    let did = did_well c.cite_laws.ensures c.self.view_is _ n' h' c.in-Some-node.is c.self.invariant.0
    c.attach.ensures.goes c.attach.ensures.may c.in-Ok.ensures.answers.opened
    (λ run. begin_done _ n' _ c.attach.new.host _ run session refl c.attach.ensures.goes.node
    (c.in-Ok.ensures.went run.unclosed)) in
    let went = c.in-Ok.ensures.went did.run.unclosed in
    let was = sym (ap (λ (d : DeviceValue). d.node) c.self.view_is) ∙ c.in-Some-node.is in
    let own = ready_store _ _ c.in-Some.store.now was c.in-Some.ensures in
    let known = ap (λ (s : StoreValue). s.state.facts.contacts) own in
    let number = c.sessions-session.ensures ∙ ap (λ (s : StoreValue). s.state.facts.begun) own in
    let begun : OfNodes (HasBegunOnLink plan c.args.nonce c.sessions-session.result
    c.self.inside.host h') c.self.inside.node (Some n') =
    of_nodes _ _ _ _ c.in-Some-node.is
    (has_begun_on plan c.args.nonce _ _ n' _ h' number
    (did.run.attached.attached did.run.unclosed).begun c.attach.ensures.goes.same_first
    (free_next _ _ _ _ did.run.runs.fits.2) went) in
    let came = comes_done (λ x y r. DeviceBeginsSession plan c.args.nonce r x y)
    (λ x y r. LinksByAttach plan.contact r x y) c.cite_laws.ensures c.self.view_is _ n' h' (c.self.inside.links + 1) did
    c.finish.result (Some c.sessions-session.result) c.finish.ensures
    (adds_link plan c.args.nonce _ _ n' h' _ did number (one_longer _ _ c.in-Ok.ensures.links)
    went.facts) tt (λ own. (own, begun)) (λ since. inr (since, (_, begun))) in
    record {
      runs = came.runs;
      running = came.running;
      links = came.links;
      refused =
          link_unrefused _ _ c.args.self.now.links plan.contact _ was
          (omega (arith, c.if-self-ge-LINKS.false, ap (λ (d : DeviceValue). d.links) c.self.view_is))
          (omega (arith, c.if-self-ge-LINKS.false, known)) came.unrefused;
      same = never_refused _ c.finish.result came.unrefused;
      attaches = came.calls;
    }

-- it failed
pub returns-in-Err : goal.returns-in-Err
returns-in-Err c =
    let plan = c.args.plan.now in
    let n' = c.attach.new.self in
    let h' = c.attach.new.host in
    let session = next_session plan c.args.nonce c.in-Some-node.node in
    let run = running_of _ _ _ _ c.in-Some-node.is c.self.invariant.0 in
    let stopped = c.in-Err.ensures.stopped run.unclosed in
    let was = sym (ap (λ (d : DeviceValue). d.node) c.self.view_is) ∙ c.in-Some-node.is in
    let known = ap (λ (s : StoreValue). s.state.facts.contacts)
    (ready_store _ _ c.in-Some.store.now was c.in-Some.ensures) in
    let came = comes_broken (λ x y r. DeviceBeginsSession plan c.args.nonce r x y)
    (λ x y r. LinksByAttach plan.contact r x y) c.cite_laws.ensures c.self.view_is c.fail.new.self c.fail.result None
    (λ off. off) (λ gave. inl (inr gave)) (λ full. full) (λ none. none) tt tt c.in-Err.fault h'
    c.fail.ensures.to
    (device_leaves c.cite_laws.ensures _ _ _ h' _ c.in-Some-node.is run
    (begin_broke _ n' _ c.attach.new.host _ run session _ stopped))
    c.attach.ensures.goes.goes.calls
    (beginning_breaks_off plan c.args.nonce c.in-Some-node.node n' _ c.self.inside.host h' c.in-Err.fault
    c.in-Some-node.is stopped)
    (λ is same. of_node _ _ _ c.in-Some-node.is
    (subst (λ (x : MemHostValue).
    FullAtBeginning plan c.args.nonce c.self.inside.host x c.in-Some-node.node) (sym same)
    (full_beginning c.cite_laws.ensures _ n' c.self.inside.host h' run.runs c.attach.ensures.goes.same_limit plan c.args.nonce
    (subst (BeginStops session c.in-Some-node.node n' c.self.inside.host h') is stopped))))
    c.fail.ensures.left c.fail.ensures.still c.fail.ensures.clock in
    record {
      runs = came.runs;
      running = came.running;
      links = came.links;
      refused =
          link_unrefused _ _ c.args.self.now.links plan.contact _ was
          (omega (arith, c.if-self-ge-LINKS.false, ap (λ (d : DeviceValue). d.links) c.self.view_is))
          (omega (arith, c.if-self-ge-LINKS.false, known)) came.unrefused;
      same = never_refused _ c.fail.result came.unrefused;
      attaches = came.calls;
    }
