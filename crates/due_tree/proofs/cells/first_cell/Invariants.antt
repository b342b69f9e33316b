use Rattle.due_tree.proofs.Trees.{IsPassed}
use Rattle.due_tree.proofs.cells.first_cell.Given as goal

abbrev pub invariant-loop-above : goal.invariant-loop-above
invariant-loop-above l = IsPassed l.bound l.height l.from l.cells l.node l.above
