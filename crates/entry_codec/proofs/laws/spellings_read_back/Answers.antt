use Rattle.entry_codec.proofs.LawProofs.{read_back}
use Rattle.entry_codec.proofs.laws.spellings_read_back.Goals as goal

pub returns : goal.returns
returns c = read_back
