use Rattle.std.proofs.Common.{length}
use Rattle.sync_world.proofs.PlayingLemmas.{Playing}
use Rattle.sync_world.specs.Playing.{course_of}
use Rattle.world_scripts.specs.Generator.{steps_of}
use Rattle.world_scripts.specs.declared.generator.TheConstants.{GENERATED_DEVICES}
use Rattle.sync_world.proofs.playing.play_seed.Given as goal

-- the steps before those that are left were made
abbrev pub invariant-steps : goal.invariant-steps
invariant-steps l =
    Playing GENERATED_DEVICES (course_of (steps_of l.seed l.count)) (course_of l.steps) l.player

abbrev pub decreases-steps : goal.decreases-steps
decreases-steps l = length l.steps
