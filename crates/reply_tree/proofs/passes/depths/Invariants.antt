use Rattle.reply_tree.specs.Walks.{depth_of}
use Rattle.reply_tree.proofs.Passing.{IsOfFirst}
use Rattle.reply_tree.proofs.passes.depths.Given as goal

abbrev pub invariant-items : goal.invariant-items
invariant-items l = IsOfFirst l.n (depth_of l.parents) l.depths.items
