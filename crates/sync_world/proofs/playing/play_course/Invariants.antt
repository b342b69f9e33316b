use Rattle.std.proofs.Common.{length}
use Rattle.sync_world.proofs.PlayingLemmas.{Playing}
use Rattle.sync_world.proofs.playing.play_course.Given as goal

-- the actions before those that are left were made
abbrev pub invariant-lines : goal.invariant-lines
invariant-lines l = Playing l.devices l.fn.script l.script l.player

abbrev pub decreases-lines : goal.decreases-lines
decreases-lines l = length l.script.actions
