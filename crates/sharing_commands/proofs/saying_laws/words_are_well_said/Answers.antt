use Rattle.sharing_commands.proofs.WellSaid.{legal_speaks_well}
use Rattle.sharing_commands.proofs.saying_laws.words_are_well_said.Goals as goal

pub returns : goal.returns
returns c = legal_speaks_well c.sayings_are_spelled.ensures
