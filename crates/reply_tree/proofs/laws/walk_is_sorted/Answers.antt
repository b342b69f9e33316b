use Rattle.reply_tree.proofs.SortedWalk.{is_sorted_walk}
use Rattle.reply_tree.proofs.laws.walk_is_sorted.Goals as goal

pub returns : goal.returns
returns c = is_sorted_walk
