use Rattle.std.proofs.Common.{[], ap, arith, inl, inr, length, subst, sym, ◌∙◌}
use Rattle.outside.specs.HostTold.{host_told}
use Rattle.world_devices.specs.Devices.{DeviceValue}
use Rattle.world_devices.specs.Doing.{DeviceAddsEntry}
use Rattle.world_devices.specs.Linking.{LinksBy}
use Rattle.world_devices.specs.declared.stop.Ran.TheVariants as ran
use Rattle.world_devices.proofs.AddLaws.{AddedBatch, BatchStops, LeadsBatch, came_adding}
use Rattle.world_devices.proofs.AddLaws.{entry_added, entry_full, may_entry}
use Rattle.world_devices.proofs.CallLaws.{device_leaves, device_well, did_well, keeps_links}
use Rattle.world_devices.proofs.CallLaws.{runs_files, runs_none}
use Rattle.world_devices.proofs.RunLaws.{add_broke, add_done}
use Rattle.world_devices.proofs.RunningLaws.{running_of}
use Rattle.world_devices.proofs.TurnLaws.{comes_broken, comes_done}
use Rattle.world_devices.proofs.device.Device.add.Goals as goal

pub invariant_of-self-in-Ok : goal.invariant_of-self-in-Ok
invariant_of-self-in-Ok c =
    let n' = c.add.new.self in
    let went = subst (AddedBatch c.in-Some.node n' c.self.inside.host c.add.new.host)
    c.in_ok-batch.ensures c.in-Ok.ensures.went in
    let did = did_well c.cite_laws.ensures c.self.view_is _ n' c.add.new.host c.in-Some.is c.self.invariant.0
    c.add.ensures.goes c.add.ensures.may c.in-Ok.ensures.answers.opened
    (λ run. add_done _ n' _ c.add.new.host _ run c.args.entry
    (may_entry c.self.view_is c.args.entry _ c.in-Some.is c.requires) c.add.ensures.links
    c.add.ensures.goes.node went) in
    device_well _ _ n' c.add.new.host did c.self.inside.links
    (did.run.linked ∙ sym (ap length c.add.ensures.links)) (omega arith) c.self.invariant
    c.self.invariant.2

pub invariant_of-self-in-Err : goal.invariant_of-self-in-Err
invariant_of-self-in-Err c =
    let n' = c.add.new.self in
    let run = running_of _ _ _ _ c.in-Some.is c.self.invariant.0 in
    let stopped = subst (BatchStops c.in-Some.node n' c.self.inside.host c.add.new.host c.in-Err.fault)
    c.in_ok-batch.ensures (c.in-Err.ensures.stopped run.unclosed) in
    let left = device_leaves c.cite_laws.ensures _ _ _ c.add.new.host _ c.in-Some.is run
    (add_broke _ n' _ c.add.new.host _ run c.args.entry
    (may_entry c.self.view_is c.args.entry _ c.in-Some.is c.requires) c.in-Err.fault stopped) in
    (tt, left.keeps [] c.self.invariant.1, c.self.invariant.2)

pub returns-in_err-batch-clause-runs : goal.returns-in_err-batch-clause-runs
returns-in_err-batch-clause-runs c = runs_none c.args.self.now

pub returns-in_default-clause-runs : goal.returns-in_default-clause-runs
returns-in_default-clause-runs c = runs_files c.args.self.now _ (ap (λ (d : DeviceValue). (host_told d.host).files) c.self.view_is)

-- it was added
pub returns-in-Ok : goal.returns-in-Ok
returns-in-Ok c =
    let n' = c.add.new.self in
    let h' = c.add.new.host in
    let went = subst (AddedBatch c.in-Some.node n' c.self.inside.host h') c.in_ok-batch.ensures
    c.in-Ok.ensures.went in
    let did = did_well c.cite_laws.ensures c.self.view_is _ n' h' c.in-Some.is c.self.invariant.0 c.add.ensures.goes
    c.add.ensures.may c.in-Ok.ensures.answers.opened
    (λ run. add_done _ n' _ c.add.new.host _ run c.args.entry
    (may_entry c.self.view_is c.args.entry _ c.in-Some.is c.requires) c.add.ensures.links
    c.add.ensures.goes.node went) in
    let added = entry_added c.args.entry _ _ n' h' did c.add.ensures.links went in
    let came = comes_done (λ x y r. DeviceAddsEntry c.args.entry r x y) (λ x y r. LinksBy r x y) c.cite_laws.ensures
    c.self.view_is _ n' h' c.self.inside.links did c.finish.result ran.Done c.finish.ensures
    (keeps_links _ _ n' h' did (ap length c.add.ensures.links)) tt (λ own. (own, added))
    (λ since. inr (since, (tt, added))) in
    record {
      runs = came.runs;
      running = came.running;
      links = came.links;
      unrefused = came.unrefused;
      adds = came.calls;
    }

-- it failed
pub returns-in-Err : goal.returns-in-Err
returns-in-Err c =
    let n' = c.add.new.self in
    let h' = c.add.new.host in
    let run = running_of _ _ _ _ c.in-Some.is c.self.invariant.0 in
    let stopped = subst (BatchStops c.in-Some.node n' c.self.inside.host h' c.in-Err.fault)
    c.in_ok-batch.ensures (c.in-Err.ensures.stopped run.unclosed) in
    let leads = subst (LeadsBatch c.in-Some.node n' c.self.inside.host h') c.in_ok-batch.ensures
    (c.add.ensures.leads run.unclosed) in
    let came = comes_broken (λ x y r. DeviceAddsEntry c.args.entry r x y) (λ x y r. LinksBy r x y) c.cite_laws.ensures
    c.self.view_is c.fail.new.self c.fail.result ran.Crashed (λ off. off) (λ gave. inl (inr gave))
    (λ full. full) (λ none. none) tt tt c.in-Err.fault h' c.fail.ensures.to
    (device_leaves c.cite_laws.ensures _ _ _ h' _ c.in-Some.is run (add_broke _ n' _ c.add.new.host _ run c.args.entry
    (may_entry c.self.view_is c.args.entry _ c.in-Some.is c.requires) c.in-Err.fault stopped))
    c.add.ensures.goes.goes.calls
    (came_adding c.args.entry _ n' _ _ h' _ c.in-Err.fault leads run c.in-Some.is stopped)
    (entry_full c.args.entry _ n' _ c.self.inside.host h' c.fail.new.self.host c.in-Err.fault c.in-Some.is stopped
    (c.in-Err.ensures.stops run.unclosed))
    c.fail.ensures.left c.fail.ensures.still c.fail.ensures.clock in
    record {
      runs = came.runs;
      running = came.running;
      links = came.links;
      unrefused = came.unrefused;
      adds = came.calls;
    }
