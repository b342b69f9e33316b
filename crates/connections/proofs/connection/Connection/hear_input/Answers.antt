use Rattle.std.proofs.Common.{subst}
use Rattle.connections.specs.contracts.connection.Connection.{the_view}
use Rattle.connections.specs.Connections.{ConnectionValue}
use Rattle.connections.specs.Hearing.{HearsOn}
use Rattle.connections.proofs.HearLemmas.{turn_asked}
use Rattle.connections.proofs.connection.Connection.hear_input.Goals as goal

pub returns : goal.returns
returns c =
    let P : ConnectionValue → Type 0 = λ o. HearsOn o c.hear_asked.new.self in
    subst P c.self.view_is
    (turn_asked c.keeping_goes_on.ensures (the_view c.self.inside) c.keep.new.self c.hear_asked.new.self c.keep.ensures
    c.hear_asked.ensures)
