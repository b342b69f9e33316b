use Rattle.world_scripts.specs.declared.step.WorldStep.TheVariants as step
use Rattle.sync_world.proofs.DoingLaws.{does_handed}
use Rattle.sync_world.proofs.stage.Stage.turn_once.Goals as goal

pub returns-in_err-_still-clause-does : goal.returns-in_err-_still-clause-does
returns-in_err-_still-clause-does c =
    does_handed (step.Turn c.args.d) c.from_residual.result c.in_err-_still.field-0.0
    c.args.self.now _ c.from_residual.ensures.1 c.in_err-_still.ensures.turns tt

pub returns-clause-does : goal.returns-clause-does
returns-clause-does c = record {
  does = (c.in_ok-_still._still, c.in_ok-_still.ensures.turns);
  groups = c.in_ok-_still.ensures.groups;
  posts = c.in_ok-_still.ensures.posts;
}
