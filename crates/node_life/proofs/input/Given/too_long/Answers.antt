use Rattle.std.proofs.Common.{refl}
use Rattle.node_life.proofs.InputLemmas.{too_long}
use Rattle.node_life.proofs.input.Given.too_long.Goals as goal

pub returns : goal.returns
returns c = (_, refl, too_long c.past_all.result c.past_all.ensures)
