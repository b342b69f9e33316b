use Rattle.std.proofs.Common.{◌≡◌, ◌-◌, ◌*◌, ◌^◌, subst, arith, suc, rules}
use Rattle.due_tree.proofs.Trees.{IsReached, reached_left, reached_right}
use Rattle.due_tree.proofs.cells.descend.Goals as goal

pub loop-above-preserved-then-not-is_due : goal.loop-above-preserved-then-not-is_due
loop-above-preserved-then-not-is_due c =
    let low = c.args.node * 2 ^ c.args.height in
    let is : c.loop-above.above ≡ suc (c.loop-above.above - 1) = omega arith in
    reached_right c.args.bound c.args.leaves low c.args.cells.now c.requires.tree c.loop-above.cell (c.loop-above.above - 1)
    (subst (λ n. IsReached c.args.bound c.args.leaves low c.args.cells.now c.loop-above.cell n) is c.loop-above.invariant)
    (search rules)

pub loop-above-preserved : goal.loop-above-preserved
loop-above-preserved c =
    let low = c.args.node * 2 ^ c.args.height in
    let is : c.loop-above.above ≡ suc (c.loop-above.above - 1) = omega arith in
    reached_left c.args.bound c.args.leaves low c.args.cells.now c.requires.tree c.loop-above.cell (c.loop-above.above - 1)
    (subst (λ n. IsReached c.args.bound c.args.leaves low c.args.cells.now c.loop-above.cell n) is c.loop-above.invariant)
    (search rules)
