use Rattle.tree_commands.proofs.Replies.{reply_to_first}
use Rattle.tree_commands.proofs.laws.replies_to_first.Goals as goal

pub returns : goal.returns
returns c = reply_to_first c.served.ensures
