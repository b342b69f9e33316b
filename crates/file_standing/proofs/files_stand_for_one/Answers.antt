use Rattle.entry_codec.proofs.OneStanding.{one_standing}
use Rattle.file_standing.proofs.files_stand_for_one.Goals as goal

pub returns : goal.returns
returns c clients files fits standing holds = one_standing clients files fits standing holds
