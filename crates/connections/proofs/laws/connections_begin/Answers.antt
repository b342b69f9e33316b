use Rattle.std.proofs.Common.{[], refl}
use Rattle.connections.proofs.laws.connections_begin.Goals as goal

pub returns : goal.returns
returns c = λ most_out. record { heard = []; has = c.readings_begin.ensures; read_is = refl }
