use Rattle.std.proofs.Common.{sym, subst}
use Rattle.sync_store.specs.Store.{StoreValue}
use Rattle.store_commands.specs.Serving.{IsReadyToServe}
use Rattle.resident.proofs.StayLemmas.{ends_store, stays_noted}
use Rattle.resident.proofs.resident.Resident.answer.Goals as goal

pub answer_request-reply-requires-clause-ready : goal.answer_request-reply-requires-clause-ready
answer_request-reply-requires-clause-ready g c =
    let clients = g.C.Clients.meaning c.args.clients.now in
    let o = g.H.Disk.tells c.args.host.now in
    subst (λ (s : StoreValue). IsReadyToServe clients s o)
    (sym (ends_store c.args.words.now c.args.self.now c.end_before.new.self c.end_before.ensures))
    (c.requires.may c.if-self.false).ready

pub returns-clause-may : goal.returns-clause-may
returns-clause-may g c =
    stays_noted (g.C.Clients.meaning c.args.clients.now) c.args.words.now c.args.self.now
    c.end_before.new.self c.answer_request-reply.new.store (g.H.Disk.tells c.args.host.now)
    (g.H.Disk.tells c.answer_request-reply.new.host) c.answer_request-reply.result c.note.new.self
    (c.requires.may c.if-self.false) c.end_before.ensures c.answer_request-reply.ensures.ready
    c.answer_request-reply.ensures.sessions c.answer_request-reply.ensures.links c.note.ensures
