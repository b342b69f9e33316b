use Rattle.mailbox_core.proofs.Journals.{reads_are_boxes}
use Rattle.mailbox_core.proofs.laws.reads_are_boxes.Goals as goal

pub returns : goal.returns
returns c = reads_are_boxes
