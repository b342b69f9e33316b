use Rattle.std.proofs.Common.{length}
use Rattle.world_scripts.proofs.CourseLemmas.{IsLeft}
use Rattle.world_scripts.proofs.reading.next_line.Given as goal

abbrev pub invariant-loop-line : goal.invariant-loop-line
invariant-loop-line l = IsLeft l.fn.first l.fn.bytes l.number l.left

abbrev pub decreases-loop-line : goal.decreases-loop-line
decreases-loop-line l = length l.left
