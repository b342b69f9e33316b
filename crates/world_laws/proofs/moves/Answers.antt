use Rattle.world_laws.proofs.MoveLaws.{move_is_step}
use Rattle.world_laws.proofs.moves.Goals as goal

pub returns : goal.returns
returns c = move_is_step
