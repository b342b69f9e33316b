use Rattle.std.proofs.Common.{◌∙◌, ◌≡◌, ◌<◌, arith, false, refl, Some, Err}
use Rattle.world_scripts.specs.declared.step.WorldStep.TheVariants as step
use Rattle.world_devices.specs.declared.stop.StepFault.TheVariants as fault
use Rattle.sync_world.specs.Doing.{MakesRound, RestsWithin, ground_of}
use Rattle.sync_world.proofs.RoundLaws.{full_breaks, rests_all, rests_broken, rests_last}
use Rattle.sync_world.proofs.RoundLaws.{rests_next, rests_none, round_on}
use Rattle.sync_world.proofs.DoingLaws.{does_handed, when_full}
use Rattle.sync_world.specs.declared.stage.Round.{Round}
use Rattle.sync_world.proofs.RestLaws.{goes_not, goes_then, passed_on}
use Rattle.sync_world.proofs.stage.Stage.rest.Goals as goal

pub returns-then-rounds-eq0-clause-goes : goal.returns-then-rounds-eq0-clause-goes
returns-then-rounds-eq0-clause-goes c = goes_not c.args.self.now

pub rounds-init : goal.rounds-init
rounds-init c = record {
  fault = refl;
  goes = goes_not c.args.self.now;
  rests = rests_none c.args.rounds (ground_of c.args.self.now);
  groups = refl;
  posts = refl;
}

pub returns-in_err-round-clause-goes : goal.returns-in_err-round-clause-goes
returns-in_err-round-clause-goes c =
    passed_on Round _ c.args.self.now c.round.new.self c.from_residual.result
    c.in_err-round.field-0.0 c.from_residual.ensures.1
    (goes_then _ c.args.self.now c.rounds.self c.round.new.self c.rounds.invariant.goes
    c.in_err-round.ensures.goes)

pub returns-in-Still-clause-fault : goal.returns-in-Still-clause-fault
returns-in-Still-clause-fault c = c.in_ok-round.ensures.fault ∙ c.rounds.invariant.fault

pub returns-in-Still-clause-goes : goal.returns-in-Still-clause-goes
returns-in-Still-clause-goes c =
    goes_then false c.args.self.now c.rounds.self c.round.new.self c.rounds.invariant.goes
    c.in_ok-round.ensures.goes

pub rounds-preserved : goal.rounds-preserved
rounds-preserved c = record {
  fault = c.in_ok-round.ensures.fault ∙ c.rounds.invariant.fault;
  goes =
      goes_then false c.args.self.now c.rounds.self c.round.new.self c.rounds.invariant.goes
      c.in_ok-round.ensures.goes;
  rests =
      rests_next c.rounds._round c.args.rounds (ground_of c.args.self.now) (ground_of c.rounds.self)
      (ground_of c.round.new.self) c.rounds.invariant.rests
      (round_on c.in_ok-round.field-0 (ground_of c.rounds.self) (ground_of c.round.new.self)
      c.in-Moving.is c.in_ok-round.ensures.made);
  groups = c.in_ok-round.ensures.groups ∙ c.rounds.invariant.groups;
  posts = c.in_ok-round.ensures.posts ∙ c.rounds.invariant.posts;
}

pub returns-in_err-round-clause-does : goal.returns-in_err-round-clause-does
returns-in_err-round-clause-does c =
    let below : c.rounds._round < c.args.rounds = omega arith in
    does_handed (step.Rest c.args.rounds) c.from_residual.result c.in_err-round.field-0.0
    c.args.self.now _ c.from_residual.ensures.1
    (when_full (MakesRound (Err fault.Full) (ground_of c.rounds.self) (ground_of c.round.new.self))
    (RestsWithin c.args.rounds false (Err fault.Full) (ground_of c.args.self.now)
    (ground_of c.round.new.self)) c.in_err-round.field-0.0
    (rests_broken (Err fault.Full) c.rounds._round c.args.rounds (ground_of c.args.self.now)
    (ground_of c.rounds.self) (ground_of c.round.new.self) full_breaks below
    c.rounds.invariant.rests) c.in_err-round.ensures.made) tt

pub returns-in-Still-clause-does : goal.returns-in-Still-clause-does
returns-in-Still-clause-does c =
    let below : c.rounds._round < c.args.rounds = omega arith in
    record {
      does = rests_last c.rounds._round c.args.rounds c.in_ok-round.field-0
          (ground_of c.args.self.now) (ground_of c.rounds.self) (ground_of c.round.new.self)
          c.in-Still.is below c.rounds.invariant.rests c.in_ok-round.ensures.made;
      groups = c.in_ok-round.ensures.groups ∙ c.rounds.invariant.groups;
      posts = c.in_ok-round.ensures.posts ∙ c.rounds.invariant.posts;
    }

pub returns-clause-does : goal.returns-clause-does
returns-clause-does c =
    let all : c.rounds._round ≡ c.args.rounds = omega arith in
    record {
      does = (
        Some false,
        rests_all c.rounds._round c.args.rounds (ground_of c.args.self.now)
            (ground_of c.rounds.self) all c.rounds.invariant.rests,
      );
      groups = c.rounds.invariant.groups;
      posts = c.rounds.invariant.posts;
    }
