use Rattle.node_life.proofs.AnswerLemmas.{ready_goes_on}
use Rattle.node_life.proofs.holder.HolderNode.answer.Goals as goal

pub returns-clause-stays : goal.returns-clause-stays
returns-clause-stays g c =
    ready_goes_on (g.C.Clients.meaning c.args.self.now.clients.now) c.answer_request.new.store
    (g.H.Disk.tells c.answer_request.new.host) c.answer_request.result
    c.answer_request.ensures.ready
