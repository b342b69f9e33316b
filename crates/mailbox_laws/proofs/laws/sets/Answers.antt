use Rattle.mailbox_laws.proofs.Ends.{sets_decide}
use Rattle.mailbox_laws.proofs.laws.sets.Goals as goal

pub returns : goal.returns
returns c = sets_decide
