use Rattle.reply_tree.specs.Walks.{RepliesToEarlier}
use Rattle.reply_tree.proofs.Passing.{ArePlaced}
use Rattle.reply_tree.proofs.passes.walk.Given as goal

abbrev pub invariant-items : goal.invariant-items
invariant-items l = (old : RepliesToEarlier l.parents) → ArePlaced l.parents old l.n l.top l.free.items l.walk.items
