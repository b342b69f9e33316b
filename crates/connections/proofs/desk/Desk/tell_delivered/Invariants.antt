use Rattle.connections.specs.Desks.{ToldNext}
use Rattle.connections.proofs.DeskLemmas.{EachUpTo}
use Rattle.connections.proofs.desk.Desk.tell_delivered.Given as goal

abbrev pub invariant-loop-place : goal.invariant-loop-place
invariant-loop-place g l =
    EachUpTo (ToldNext g.N.Answerer.gives l.delivered) l.place-index l.initial.place-items l.place-items
