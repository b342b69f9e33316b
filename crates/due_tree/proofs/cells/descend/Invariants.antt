use Rattle.std.proofs.Common.{◌*◌, ◌^◌}
use Rattle.due_tree.proofs.Trees.{IsReached}
use Rattle.due_tree.proofs.cells.descend.Given as goal

abbrev pub invariant-loop-above : goal.invariant-loop-above
invariant-loop-above l = IsReached l.bound l.leaves (l.node * 2 ^ l.height) l.cells l.cell l.above

abbrev pub decreases-loop-above : goal.decreases-loop-above
decreases-loop-above l = l.above
