use Rattle.std.proofs.Common.{List, subst, sym}
use Rattle.sync_world.proofs.PlayingLemmas.{Playing, began, came_over, comes_on, next_of, none_of}
use Rattle.sync_world.proofs.PlayingLemmas.{stopped, went_on}
use Rattle.sync_world.specs.Playing.{course_of}
use Rattle.world_scripts.specs.Generator.{steps_of}
use Rattle.world_scripts.specs.declared.generator.TheConstants.{GENERATED_DEVICES}
use Rattle.world_scripts.specs.declared.step.Action.TheVariants as action
use Rattle.world_scripts.specs.declared.step.WorldStep.{WorldStep}
use Rattle.sync_world.proofs.playing.play_seed.Goals as goal

pub steps-preserved : goal.steps-preserved
steps-preserved c =
    went_on GENERATED_DEVICES (course_of (steps_of c.args.seed c.args.count))
    (course_of c.steps.steps) c.steps.player c.steps.invariant
    1 (action.Step c.in-Some.step) (course_of c.next_step.new.self) c.act.new.player
    (next_of c.steps.steps c.next_step.new.self c.in_ok-step.field-0 c.in-Some.step c.in-Some.is
    c.in_ok-step.ensures.ok) c.in_ok-act.ensures

pub returns-in_err-act : goal.returns-in_err-act
returns-in_err-act c =
    comes_on GENERATED_DEVICES (course_of (steps_of c.args.seed c.args.count))
    c.from_residual-in_err-act.result c.in_err-act.field-0.0
    c.from_residual-in_err-act.ensures.1
    (stopped GENERATED_DEVICES (course_of (steps_of c.args.seed c.args.count))
    (course_of c.steps.steps) c.steps.player c.steps.invariant
    1 (action.Step c.in-Some.step) (course_of c.next_step.new.self) c.act.new.player
    c.in_err-act.field-0.0
    (next_of c.steps.steps c.next_step.new.self c.in_ok-step.field-0 c.in-Some.step c.in-Some.is
    c.in_ok-step.ensures.ok) c.in_err-act.ensures)

pub returns : goal.returns
returns c =
    came_over GENERATED_DEVICES (course_of (steps_of c.args.seed c.args.count))
    (course_of c.steps.steps) c.steps.player c.steps.invariant
    (none_of c.steps.steps c.next_step.new.self c.in_ok-step.field-0 c.in_default.is
    c.in_ok-step.ensures.ok)

pub steps-init : goal.steps-init
steps-init c =
    subst (λ (left : List WorldStep).
    Playing GENERATED_DEVICES (course_of (steps_of c.args.seed c.args.count)) (course_of left)
    c.in_ok-player.player) (sym c.new-steps.ensures)
    (began GENERATED_DEVICES (course_of (steps_of c.args.seed c.args.count)) c.in_ok-player.player
    c.in_ok-player.ensures.ok)
