use Rattle.reply_tree.proofs.OneWalk.{has_one_walk}
use Rattle.reply_tree.proofs.laws.walks_are_one.Goals as goal

pub returns : goal.returns
returns c = has_one_walk
