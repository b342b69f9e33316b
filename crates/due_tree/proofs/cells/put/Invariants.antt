use Rattle.std.proofs.Common.{◌≡◌, ◌<◌, drop, set}
use Rattle.due_tree.specs.Cells.{IsTreeBut}
use Rattle.due_tree.proofs.cells.put.Given as goal

abbrev pub invariant-loop-node : goal.invariant-loop-node
invariant-loop-node l = record {
  low : l.node < l.leaves;
  tree : IsTreeBut l.leaves l.cells l.node;
  places : drop l.leaves l.cells ≡ set (drop l.leaves l.fn.cells) l.place l.fn.number;
}

abbrev pub decreases-loop-node : goal.decreases-loop-node
decreases-loop-node l = l.node
