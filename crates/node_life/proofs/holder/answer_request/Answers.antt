use Rattle.std.proofs.Common.{ap, ◌∙◌, inr}
use Rattle.node_service.specs.Lives.{shown_bytes}
use Rattle.node_life.specs.Requests.{bare}
use Rattle.node_life.proofs.AnswerLemmas.{request_done, request_unread, synced_stays}
use Rattle.node_life.proofs.SettleLemmas.{stands_ready}
use Rattle.node_life.proofs.LeaveLemmas.{asked_leaves, nothing_leaves}
use Rattle.node_life.proofs.holder.answer_request.Goals as goal

pub returns-in-Ok-clause-answered : goal.returns-in-Ok-clause-answered
returns-in-Ok-clause-answered g c = λ request words keeps.
    let clients = g.C.Clients.meaning c.args.clients.now in
    request_done g.H.Disk.tells clients request c.args.words.now c.in-Ok.asked c.args.host.now
    c.answer_command.new.host c.answer_command.result.came
    (shown_bytes c.answer_command.result.shown c.answer_command.new.out.bytes)
    c.answer_command.result.ends words c.in-Ok.ensures.asked
    (c.answer_command.ensures.answers request keeps)
    (synced_stays clients c.answer_command.new.store (g.H.Disk.tells c.answer_command.new.host)
    c.answer_command.result c.answer_command.ensures.ready)

pub returns-in-Err-clause-answered : goal.returns-in-Err-clause-answered
returns-in-Err-clause-answered g c = λ request words keeps.
    let clients = g.C.Clients.meaning c.args.clients.now in
    request_unread g.H.Disk.tells clients request c.args.words.now c.in-Err.fault c.args.host.now
    c.nothing_done.result.came (shown_bytes c.nothing_done.result.shown c.args.out.now.bytes)
    c.nothing_done.result.ends words c.in-Err.ensures.asked
    (c.nothing_done.ensures c.args.out.now.bytes ∙ ap bare c.from.ensures)
    (stands_ready clients c.args.store.now (g.H.Disk.tells c.args.host.now) c.requires.ready)

pub returns-in-Err-clause-ready : goal.returns-in-Err-clause-ready
returns-in-Err-clause-ready g c = inr c.requires.ready

pub returns-in-Ok-clause-sessions : goal.returns-in-Ok-clause-sessions
returns-in-Ok-clause-sessions g c leave =
    c.answer_command.ensures.sessions
    (asked_leaves c.args.words.now c.in-Ok.asked c.in-Ok.ensures.asked leave)

pub returns-in-Err-clause-sessions : goal.returns-in-Err-clause-sessions
returns-in-Err-clause-sessions g c leave =
    nothing_leaves c.args.store.now _

pub returns-in-Ok-clause-links : goal.returns-in-Ok-clause-links
returns-in-Ok-clause-links g c leave =
    c.answer_command.ensures.links
    (asked_leaves c.args.words.now c.in-Ok.asked c.in-Ok.ensures.asked leave)
