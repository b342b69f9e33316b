use Rattle.entry_codec.proofs.HeldNames.{legal_names}
use Rattle.entry_codec.proofs.laws.legal_has_names.Goals as goal

pub returns : goal.returns
returns c clients j legal few = legal_names c.message_ids_are_whole.ensures clients j legal few
