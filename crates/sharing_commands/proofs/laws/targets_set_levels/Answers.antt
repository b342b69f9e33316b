use Rattle.sharing_commands.proofs.LastLevels.{all_set}
use Rattle.sharing_commands.proofs.laws.targets_set_levels.Goals as goal

pub returns : goal.returns
returns c = all_set
