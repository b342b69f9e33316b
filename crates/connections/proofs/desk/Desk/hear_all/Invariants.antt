use Rattle.connections.specs.Desks.{HeardOnce}
use Rattle.connections.proofs.DeskLemmas.{EachUpTo}
use Rattle.connections.proofs.desk.Desk.hear_all.Given as goal

abbrev pub invariant-loop-i : goal.invariant-loop-i
invariant-loop-i g l = EachUpTo HeardOnce l.i l.initial.place-items l.place-items
