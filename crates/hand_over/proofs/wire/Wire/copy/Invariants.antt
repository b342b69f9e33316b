use Rattle.std.proofs.Common.{◌-◌, ◌≤◌}
use Rattle.hand_over.proofs.wire.Wire.copy.Given as goal

abbrev pub invariant-pieces : goal.invariant-pieces
invariant-pieces g l = l.done ≤ l.count

abbrev pub decreases-pieces : goal.decreases-pieces
decreases-pieces g l = l.count - l.done
