use Rattle.node_service.proofs.LifeLemmas.{LivedSo}
use Rattle.node_service.proofs.life.serve.Given as goal

abbrev pub invariant-requests : goal.invariant-requests
invariant-requests g l =
    LivedSo (g.N.Node.answers l.fn.node) (g.N.Node.answers l.node) l.fn.host l.host
    (g.S.Source.tells l.fn.input) (g.S.Source.tells l.input) (g.W.Sink.tells l.fn.out)
    (g.W.Sink.tells l.out) l.ear l.counter
    × g.N.Node.may l.node l.host
