use Rattle.mailbox_commands.proofs.Taken.{boxed}
use Rattle.mailbox_commands.proofs.laws.mail_is_boxed.Goals as goal

pub returns : goal.returns
returns c = boxed c.reads_are_boxes.ensures
