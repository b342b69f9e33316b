use Rattle.std.proofs.Common.{[], ap, arith, inl, inr, subst, sym, ◌∙◌, Some, None}
use Rattle.outside.specs.HostTold.{host_told}
use Rattle.outside.specs.MemHost.{MemHostValue}
use Rattle.world_devices.specs.Devices.{DeviceValue}
use Rattle.world_devices.specs.Doing.{DeviceMakesTurn, FullInTurn, HasTurned, OfNodes}
use Rattle.world_devices.specs.Linking.{LinksByTurn}
use Rattle.world_devices.proofs.CallLaws.{device_leaves, device_well, did_well, keeps_links}
use Rattle.world_devices.proofs.CallLaws.{runs_files, same_number}
use Rattle.world_devices.proofs.FullLaws.{full_turn}
use Rattle.world_devices.proofs.RunLaws.{TurnStops, turn_broke, turn_done}
use Rattle.world_devices.proofs.RunningLaws.{running_of}
use Rattle.world_devices.proofs.TurnLaws.{comes_broken, comes_done, has_turned, of_node, of_nodes}
use Rattle.world_devices.proofs.TurnLaws.{still_by, turn_breaks_off}
use Rattle.world_devices.proofs.device.Device.turn.Goals as goal

pub invariant_of-self-in-Ok : goal.invariant_of-self-in-Ok
invariant_of-self-in-Ok c =
    let n' = c.turn.new.self in
    let did = did_well c.cite_laws.ensures c.self.view_is _ n' c.turn.new.host c.in-Some.is c.self.invariant.0
    c.turn.ensures.goes c.turn.ensures.may c.in-Ok.ensures.answers.opened
    (λ run. turn_done _ n' _ c.turn.new.host _ run _ c.turn.ensures.goes.node (c.in-Ok.ensures.went run.unclosed)) in
    device_well _ _ n' c.turn.new.host did c.self.inside.links
    (did.run.linked ∙ sym (same_number _ _ c.in-Ok.ensures.kept)) (omega arith) c.self.invariant
    c.self.invariant.2

pub invariant_of-self-in-Err : goal.invariant_of-self-in-Err
invariant_of-self-in-Err c =
    let run = running_of _ _ _ _ c.in-Some.is c.self.invariant.0 in
    let left = device_leaves c.cite_laws.ensures _ _ _ c.turn.new.host _ c.in-Some.is run
    (turn_broke _ c.turn.new.self _ c.turn.new.host _ run _ (c.in-Err.ensures.stopped run.unclosed)) in
    (tt, left.keeps [] c.self.invariant.1, c.self.invariant.2)

pub returns-in_default-clause-runs : goal.returns-in_default-clause-runs
returns-in_default-clause-runs c =
    runs_files c.args.self.now _ (ap (λ (d : DeviceValue). (host_told d.host).files) c.self.view_is)

-- the turn was made
pub returns-in-Ok : goal.returns-in-Ok
returns-in-Ok c =
    let n' = c.turn.new.self in
    let h' = c.turn.new.host in
    let kept = c.in-Ok.ensures.kept in
    let did = did_well c.cite_laws.ensures c.self.view_is _ n' h' c.in-Some.is c.self.invariant.0 c.turn.ensures.goes
    c.turn.ensures.may c.in-Ok.ensures.answers.opened
    (λ run. turn_done _ n' _ c.turn.new.host _ run _ c.turn.ensures.goes.node (c.in-Ok.ensures.went run.unclosed)) in
    let turned : OfNodes (HasTurned c.eq.result c.self.inside.host h') c.self.inside.node (Some n') =
    of_nodes _ _ _ _ c.in-Some.is
    (has_turned _ _ _ _ _ _ kept.same_first (sym (still_by c.in-Ok.turned c.eq.result c.eq.ensures))
    (c.in-Ok.ensures.went did.run.unclosed)) in
    let came = comes_done (λ x y r. DeviceMakesTurn r x y) (λ x y r. LinksByTurn r x y) c.cite_laws.ensures
    c.self.view_is _ n' h' c.self.inside.links did c.finish.result (Some c.eq.result) c.finish.ensures
    (keeps_links _ _ n' h' did (same_number _ _ kept)) tt (λ own. (own, turned))
    (λ since. inr (since, (c.eq.result, turned))) in
    record {
      runs = came.runs;
      running = came.running;
      links = came.links;
      unrefused = came.unrefused;
      turns = came.calls;
    }

-- it failed
pub returns-in-Err : goal.returns-in-Err
returns-in-Err c =
    let n' = c.turn.new.self in
    let h' = c.turn.new.host in
    let run = running_of _ _ _ _ c.in-Some.is c.self.invariant.0 in
    let stopped = c.in-Err.ensures.stopped run.unclosed in
    let came = comes_broken (λ x y r. DeviceMakesTurn r x y) (λ x y r. LinksByTurn r x y) c.cite_laws.ensures
    c.self.view_is c.fail.new.self c.fail.result None (λ off. off) (λ gave. inl (inr gave))
    (λ full. full) (λ none. none) tt tt c.in-Err.fault h' c.fail.ensures.to
    (device_leaves c.cite_laws.ensures _ _ _ h' _ c.in-Some.is run (turn_broke _ n' _ c.turn.new.host _ run _ stopped))
    c.turn.ensures.goes.goes.calls
    (turn_breaks_off c.in-Some.node n' _ c.self.inside.host h' c.in-Err.fault c.in-Some.is stopped)
    (λ is same. of_node _ _ _ c.in-Some.is
    (subst (λ (x : MemHostValue). FullInTurn c.self.inside.host x c.in-Some.node) (sym same)
    (full_turn c.cite_laws.ensures _ n' c.self.inside.host h' run.runs c.turn.ensures.goes.same_limit
    (subst (TurnStops c.in-Some.node n' c.self.inside.host h') is stopped))))
    c.fail.ensures.left c.fail.ensures.still c.fail.ensures.clock in
    record {
      runs = came.runs;
      running = came.running;
      links = came.links;
      unrefused = came.unrefused;
      turns = came.calls;
    }
