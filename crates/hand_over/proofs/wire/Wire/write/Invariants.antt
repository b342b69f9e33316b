use Rattle.std.proofs.Common.{length, ◌-◌, ◌≤◌}
use Rattle.hand_over.proofs.wire.Wire.write.Given as goal

abbrev pub invariant-pieces : goal.invariant-pieces
invariant-pieces l = l.done ≤ length l.bytes

abbrev pub decreases-pieces : goal.decreases-pieces
decreases-pieces l = length l.bytes - l.done
