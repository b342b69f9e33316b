use Rattle.entry_codec.proofs.Standings.{standing}
use Rattle.file_standing.proofs.files_stand.Goals as goal

pub returns : goal.returns
returns c clients files fits = (standing clients files).holds fits
