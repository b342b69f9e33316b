use Rattle.sync_ids.proofs.IdLengths.{message_id_whole}
use Rattle.sync_ids.proofs.ids.message_ids_are_whole.Goals as goal

pub returns : goal.returns
returns c = message_id_whole
