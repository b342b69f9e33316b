use Rattle.std.proofs.Common.{length, ◌-◌, ◌≤◌}
use Rattle.outside_real.proofs.early.read_front.Given as goal

abbrev pub invariant-pieces : goal.invariant-pieces
invariant-pieces g l = l.done ≤ length l.buf

abbrev pub decreases-pieces : goal.decreases-pieces
decreases-pieces g l = length l.initial.buf - l.done
