use Rattle.std.proofs.Common.{◌≡◌, drop}
use Rattle.world_scripts.specs.Labels.{has_twice}
use Rattle.world_scripts.proofs.labels.has_twice.Given as goal

-- a label stands twice just where one does from here on
abbrev pub invariant-loop-place : goal.invariant-loop-place
invariant-loop-place l = has_twice (drop l.place l.labels) ≡ has_twice l.labels
