use Rattle.session_core.proofs.Cut.{cut_short}
use Rattle.session_core.proofs.outputs.acks.Goals as goal

pub id_list-requires : goal.id_list-requires
id_list-requires g c = cut_short 1536 _ _ c.in_ok-ids.ensures
