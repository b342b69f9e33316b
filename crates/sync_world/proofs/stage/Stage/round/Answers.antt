use Rattle.std.proofs.Common.{◌∙◌, ◌≡◌, ◌<◌, Bool, Option, None, Some, Ok, Err, arith, true, false}
use Rattle.std.proofs.Common.{refl}
use Rattle.world_scripts.specs.declared.step.TheConstants.{MAX_DEVICES}
use Rattle.world_devices.specs.declared.stop.StepFault.TheVariants as fault
use Rattle.sync_world.specs.Doing.{MakesRound, TurnsLinked, ground_of}
use Rattle.sync_world.proofs.RoundLaws.{crash_breaks, full_breaks, loud_round, quiet_round}
use Rattle.sync_world.proofs.RoundLaws.{round_handed, round_made, so_ends, so_next, so_none}
use Rattle.sync_world.proofs.RoundLaws.{turned_as}
use Rattle.sync_world.proofs.DoingLaws.{when_full}
use Rattle.sync_world.proofs.RestLaws.{goes_arrives, goes_not, goes_then, passed_on}
use Rattle.sync_world.proofs.stage.Stage.round.Goals as goal

pub devices-init : goal.devices-init
devices-init c = record {
  fault = refl;
  goes = goes_not c.args.self.now;
  turns = so_none (ground_of c.args.self.now);
  groups = refl;
  posts = refl;
}

pub returns-in_err-quiet-clause-goes : goal.returns-in_err-quiet-clause-goes
returns-in_err-quiet-clause-goes c =
    passed_on (Option Bool) _ c.args.self.now c.turn_if_linked.new.self c.from_residual.result
    c.in_err-quiet.field-0.0 c.from_residual.ensures.1
    (goes_then _ c.args.self.now c.devices.self c.turn_if_linked.new.self c.devices.invariant.goes
    c.in_err-quiet.ensures.goes)

pub returns-in-None-clause-goes : goal.returns-in-None-clause-goes
returns-in-None-clause-goes c =
    goes_then false c.args.self.now c.devices.self c.turn_if_linked.new.self
    c.devices.invariant.goes c.in_ok-quiet.ensures.goes

pub devices-preserved : goal.devices-preserved
devices-preserved c = record {
  fault = c.in_ok-quiet.ensures.fault ∙ c.devices.invariant.fault;
  goes =
      goes_then false c.args.self.now c.devices.self c.turn_if_linked.new.self
      c.devices.invariant.goes c.in_ok-quiet.ensures.goes;
  turns =
      so_next c.devices.d c.devices.still c.in-Some.quiet (ground_of c.args.self.now)
      (ground_of c.devices.self) (ground_of c.turn_if_linked.new.self) c.devices.invariant.turns
      (turned_as c.devices.d c.in_ok-quiet.field-0 (Some c.in-Some.quiet) (ground_of c.devices.self)
      (ground_of c.turn_if_linked.new.self) c.in-Some.is c.in_ok-quiet.ensures.turns);
  groups = c.in_ok-quiet.ensures.groups ∙ c.devices.invariant.groups;
  posts = c.in_ok-quiet.ensures.posts ∙ c.devices.invariant.posts;
}

pub returns-then-not-carried-clause-goes : goal.returns-then-not-carried-clause-goes
returns-then-not-carried-clause-goes c =
    goes_arrives c.cite_laws.ensures.worlds c.args.self.now c.devices.self c.arrive.new.self
    c.devices.invariant.goes c.in_ok-carried.ensures.devices c.in_ok-carried.ensures.links

pub returns-else-still-clause-goes : goal.returns-else-still-clause-goes
returns-else-still-clause-goes c =
    goes_arrives c.cite_laws.ensures.worlds c.args.self.now c.devices.self c.arrive.new.self
    c.devices.invariant.goes c.in_ok-carried.ensures.devices c.in_ok-carried.ensures.links

pub returns-in_err-quiet-clause-made : goal.returns-in_err-quiet-clause-made
returns-in_err-quiet-clause-made c =
    let below : c.devices.d < MAX_DEVICES = omega arith in
    round_handed c.from_residual.result c.in_err-quiet.field-0.0 (ground_of c.args.self.now) _
    c.from_residual.ensures.1
    (when_full
    (TurnsLinked c.devices.d (Err fault.Full) (ground_of c.devices.self)
    (ground_of c.turn_if_linked.new.self))
    (MakesRound (Err fault.Full) (ground_of c.args.self.now)
    (ground_of c.turn_if_linked.new.self)) c.in_err-quiet.field-0.0
    (so_ends (Err fault.Full) c.devices.d c.devices.still (ground_of c.args.self.now)
    (ground_of c.devices.self) (ground_of c.turn_if_linked.new.self) full_breaks below
    c.devices.invariant.turns) c.in_err-quiet.ensures.turns)

pub returns-in-None-clause-made : goal.returns-in-None-clause-made
returns-in-None-clause-made c =
    let below : c.devices.d < MAX_DEVICES = omega arith in
    so_ends (Ok None) c.devices.d c.devices.still (ground_of c.args.self.now)
    (ground_of c.devices.self) (ground_of c.turn_if_linked.new.self) crash_breaks below
    c.devices.invariant.turns
    (turned_as c.devices.d c.in_ok-quiet.field-0 None (ground_of c.devices.self)
    (ground_of c.turn_if_linked.new.self) c.in-None.is c.in_ok-quiet.ensures.turns)

pub returns-then-not-carried-clause-made : goal.returns-then-not-carried-clause-made
returns-then-not-carried-clause-made c =
    let all : c.devices.d ≡ MAX_DEVICES = omega arith in
    round_made c.devices.d (ground_of c.args.self.now) (ground_of c.devices.self)
    (ground_of c.arrive.new.self) c.devices.still c.in_ok-carried.carried true all
    c.devices.invariant.turns c.in_ok-carried.ensures.devices c.in_ok-carried.ensures.links
    c.in_ok-carried.ensures.some
    (quiet_round c.devices.still c.in_ok-carried.carried c.if-still.true c.if-not-carried.true)

pub returns-else-still-clause-made : goal.returns-else-still-clause-made
returns-else-still-clause-made c =
    let all : c.devices.d ≡ MAX_DEVICES = omega arith in
    round_made c.devices.d (ground_of c.args.self.now) (ground_of c.devices.self)
    (ground_of c.arrive.new.self) c.devices.still c.in_ok-carried.carried false all
    c.devices.invariant.turns c.in_ok-carried.ensures.devices c.in_ok-carried.ensures.links
    c.in_ok-carried.ensures.some
    (loud_round c.devices.still c.in_ok-carried.carried c.else-still.either)
