use Rattle.std.proofs.Common.{arith, rules}
use Rattle.due_tree.proofs.Trees.{sibling_begins, sibling_ends, up_even, up_odd}
use Rattle.due_tree.proofs.cells.first_cell.Goals as goal
use Rattle.due_tree.proofs.cells.first_cell.Goals.{else-node-eq0-via-then-node-eq0+else-is_due-2, else-node-eq0-via-else-node-eq0}

pub descend-requires-clause-begins : goal.descend-requires-clause-begins
descend-requires-clause-begins c =
    sibling_begins c.args.bound c.args.leaves c.args.height c.args.from c.args.cells.now c.requires.whole.tree c.requires.whole.shape.power c.loop-above.node c.loop-above.above (omega arith) c.loop-above.invariant

pub descend-requires-clause-ends : goal.descend-requires-clause-ends
descend-requires-clause-ends c =
    sibling_ends c.args.bound c.args.leaves c.args.height c.args.from c.args.cells.now c.requires.whole.tree c.requires.whole.shape.power c.loop-above.node c.loop-above.above (omega arith) c.loop-above.invariant (search rules)

pub returns-then-is_due-2-clause-least : goal.returns-then-is_due-2-clause-least
returns-then-is_due-2-clause-least c = omega (arith, c.loop-above.invariant.past, c.descend.ensures.low)

pub loop-above-preserved : goal.loop-above-preserved
loop-above-preserved c = elim c.else-node-eq0.branch [
  | else-node-eq0-via-then-node-eq0+else-is_due-2 w ↦
      up_even c.args.bound c.args.leaves c.args.height c.args.from c.args.cells.now c.requires.whole.tree c.requires.whole.shape.power c.loop-above.node c.loop-above.above (omega arith) c.loop-above.invariant (search rules) (search rules)
  | else-node-eq0-via-else-node-eq0 w ↦
      up_odd c.args.bound c.args.leaves c.args.height c.args.from c.args.cells.now c.requires.whole.tree c.requires.whole.shape.power c.loop-above.node c.loop-above.above (omega arith) c.loop-above.invariant (search rules)
]
