use Rattle.connections.proofs.DeskLemmas.{answered_at}
use Rattle.connections.proofs.desk.Desk.answer_next.Goals as goal

pub returns : goal.returns
returns g c =
    answered_at g.N.Answerer.answers c.args.node.now c.answer_on-reply.new.node c.args.self.now.places.items c.in_ok-at.at
    c.in_ok-at.ensures.0 c.answer_on-reply.result.0 c.answer_on-reply.result.1 c.index_mut-place.result.now
    c.answer_on-reply.new.connection c.in_ok-at.ensures.1 c.index_mut-place.ensures.value c.answer_on-reply.ensures
