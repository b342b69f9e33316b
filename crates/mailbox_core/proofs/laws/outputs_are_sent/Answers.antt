use Rattle.mailbox_core.proofs.Journals.{outputs_are_sent}
use Rattle.mailbox_core.proofs.laws.outputs_are_sent.Goals as goal

pub returns : goal.returns
returns c = outputs_are_sent
