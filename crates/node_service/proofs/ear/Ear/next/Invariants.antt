use Rattle.node_service.proofs.EarLemmas.{SoFar}
use Rattle.node_service.proofs.ear.Ear.next.Given as goal

abbrev pub invariant-pieces : goal.invariant-pieces
invariant-pieces g l =
    SoFar (g.S.Source.tells l.initial.input) (g.S.Source.tells l.input) l.initial.self l.self
    l.counter
