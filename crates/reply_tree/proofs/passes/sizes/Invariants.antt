use Rattle.std.proofs.Common.{◌≤◌, length}
use Rattle.reply_tree.specs.Walks.{RepliesToEarlier}
use Rattle.reply_tree.proofs.Passing.{AreCounted}
use Rattle.reply_tree.proofs.passes.sizes.Given as goal

abbrev pub invariant-loop-left : goal.invariant-loop-left
invariant-loop-left l = record {
  counted : (old : RepliesToEarlier l.parents) → AreCounted l.parents old l.left l.sizes.items;
  within : l.left ≤ length l.parents;
}

abbrev pub decreases-loop-left : goal.decreases-loop-left
decreases-loop-left l = l.left
