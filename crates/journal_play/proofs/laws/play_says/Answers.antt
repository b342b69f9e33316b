-- The settled law, for the journal that took the records.
use Rattle.journal_play.proofs.Says.{says}
use Rattle.journal_play.proofs.laws.play_says.Goals as goal

pub returns : goal.returns
returns c = says
