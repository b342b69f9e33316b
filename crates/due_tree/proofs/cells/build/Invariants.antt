use Rattle.std.proofs.Common.{◌≡◌, ◌<◌, ◌≤◌, ℕ, drop}
use Rattle.due_tree.specs.Cells.{at, least_below}
use Rattle.due_tree.proofs.cells.build.Given as goal

abbrev pub invariant-loop-node : goal.invariant-loop-node
invariant-loop-node l = record {
  high : l.node ≤ l.leaves;
  tree : (cell : ℕ) → l.node ≤ cell → 1 ≤ cell → cell < l.leaves → at l.cells cell ≡ least_below l.cells cell;
  places : drop l.leaves l.cells ≡ drop l.leaves l.fn.cells;
}

abbrev pub decreases-loop-node : goal.decreases-loop-node
decreases-loop-node l = l.node
