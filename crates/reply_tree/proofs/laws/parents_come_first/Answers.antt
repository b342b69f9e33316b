use Rattle.reply_tree.proofs.OneWalk.{has_parents_first}
use Rattle.reply_tree.proofs.laws.parents_come_first.Goals as goal

pub returns : goal.returns
returns c = has_parents_first
