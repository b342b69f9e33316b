use Rattle.std.proofs.Common.{sym, subst}
use Rattle.connections.specs.declared.connection.Standing.TheVariants as standing
use Rattle.connections.specs.Connections.{ConnectionValue}
use Rattle.connections.specs.Hearing.{HearsOn}
use Rattle.connections.proofs.HearLemmas.{turn_fault, turn_more, turn_whole}
use Rattle.connections.proofs.connection.Connection.hear_asked.Goals as goal

pub returns-in-Whole : goal.returns-in-Whole
returns-in-Whole c =
    let P : ConnectionValue → Type 0 = λ m. HearsOn c.args.self.now (record m { standing = standing.Asks c.args.time }) in
    subst P (sym c.self.view_is)
    (turn_whole c.readings_go_on.ensures c.args.self.now c.hear_some.new.self c.args.time c.in-Whole.ensures)

pub returns-in-More : goal.returns-in-More
returns-in-More c =
    turn_more c.readings_go_on.ensures c.args.self.now c.hear_some.new.self c.requires.hears c.in-More.ensures

pub returns-in-Fault : goal.returns-in-Fault
returns-in-Fault c =
    turn_fault c.readings_go_on.ensures c.args.self.now c.hear_some.new.self c.readings_are_whole.ensures
    c.tell_fault.new.self c.in-Fault.ensures c.tell_fault.ensures
