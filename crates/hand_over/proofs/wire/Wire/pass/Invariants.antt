use Rattle.std.proofs.Common.{◌-◌, ◌≤◌}
use Rattle.hand_over.proofs.wire.Wire.pass.Given as goal

abbrev pub invariant-pieces : goal.invariant-pieces
invariant-pieces l = l.done ≤ l.count

abbrev pub decreases-pieces : goal.decreases-pieces
decreases-pieces l = l.count - l.done
