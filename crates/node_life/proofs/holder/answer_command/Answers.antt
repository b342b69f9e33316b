use Rattle.std.proofs.Common.{sym, ◌∙◌, subst, inr, rules}
use Rattle.request_frames.specs.declared.head.InputSize.{InputSize}
use Rattle.node_life.specs.Inputs.{ReadsGiven, failing_told, given_told}
use Rattle.commands.specs.Reading.Asked.{Do}
use Rattle.node_life.specs.Requests.{AnswersAsked, AreStreams, said_by}
use Rattle.node_life.proofs.InputLemmas.{given_enough, given_failed, given_long, given_same}
use Rattle.node_life.proofs.LeaveLemmas.{nothing_leaves}
use Rattle.node_life.proofs.LinkLemmas.{answered_links}
use Rattle.node_life.proofs.holder.answer_command.Goals as goal

pub returns-in-Failed-clause-answers : goal.returns-in-Failed-clause-answers
returns-in-Failed-clause-answers g c = λ request keeps.
    inr (given_same g.H.Disk.tells (g.C.Clients.meaning c.args.clients.now)
    (ReadsGiven request.size request.input) (failing_told c.new-input.result)
    (failing_told c.do_command.new.input) c.args.host.now c.do_command.new.host
    (said_by c.do_command.result c.do_command.new.out.bytes)
    (given_failed request.size request.input c.new-input.result c.do_command.new.input
    (keeps.0 ∙ c.in-Failed.is)) c.args.asked c.do_command.ensures.does.answers)

pub returns-in-Long-clause-answers : goal.returns-in-Long-clause-answers
returns-in-Long-clause-answers g c = λ request keeps.
    inr (given_same g.H.Disk.tells (g.C.Clients.meaning c.args.clients.now)
    (ReadsGiven request.size request.input) (given_told c.too_long-input.result)
    (given_told c.do_command-in-Long.new.input) c.args.host.now c.do_command-in-Long.new.host
    (said_by c.do_command-in-Long.result c.do_command-in-Long.new.out.bytes)
    (given_long request.size request.input c.too_long-input.result c.do_command-in-Long.new.input
    (keeps.0 ∙ c.in-Long.is) c.too_long-input.ensures) c.args.asked
    c.do_command-in-Long.ensures.does.answers)

pub returns-else-not-is_enough-clause-answers : goal.returns-else-not-is_enough-clause-answers
returns-else-not-is_enough-clause-answers g c = λ request keeps.
    let clients = g.C.Clients.meaning c.args.clients.now in
    let over = c.do_kept.ensures.does in
    let said = said_by c.do_kept.result c.do_kept.new.out.bytes in
    inr (subst (λ (x : InputSize).
    AnswersAsked g.H.Disk.tells clients (ReadsGiven x request.input) (Do c.args.asked)
    c.args.host.now c.do_kept.new.host said) (sym (keeps.0 ∙ c.in-Bytes.is))
    (given_enough c.in-Bytes.field-0 c.args.most c.args.kept.now request.input keeps.1 over.input
    over.input' over.bytes over.unfailing g.H.Disk.tells clients c.args.host.now
    c.do_kept.new.host said c.args.asked (sym c.is_enough.ensures ∙ search rules)
    over.done.answers))

pub returns-in-Failed-clause-ready : goal.returns-in-Failed-clause-ready
returns-in-Failed-clause-ready g c = c.do_command.ensures.does.ready

pub returns-in-Long-clause-ready : goal.returns-in-Long-clause-ready
returns-in-Long-clause-ready g c = c.do_command-in-Long.ensures.does.ready

pub returns-else-not-is_enough-clause-ready : goal.returns-else-not-is_enough-clause-ready
returns-else-not-is_enough-clause-ready g c = c.do_kept.ensures.does.done.ready

pub returns-then-not-is_enough-clause-sessions : goal.returns-then-not-is_enough-clause-sessions
returns-then-not-is_enough-clause-sessions g c leaves =
    nothing_leaves c.args.store.now _

pub returns-in-Failed-clause-links : goal.returns-in-Failed-clause-links
returns-in-Failed-clause-links g c leaves =
    answered_links g.H.Disk.tells (g.C.Clients.meaning c.args.clients.now)
    (AreStreams (failing_told c.new-input.result) (failing_told c.do_command.new.input))
    c.args.host.now c.do_command.new.host
    (said_by c.do_command.result c.do_command.new.out.bytes) c.args.asked leaves
    c.do_command.ensures.does.answers

pub returns-in-Long-clause-links : goal.returns-in-Long-clause-links
returns-in-Long-clause-links g c leaves =
    answered_links g.H.Disk.tells (g.C.Clients.meaning c.args.clients.now)
    (AreStreams (given_told c.too_long-input.result) (given_told c.do_command-in-Long.new.input))
    c.args.host.now c.do_command-in-Long.new.host
    (said_by c.do_command-in-Long.result c.do_command-in-Long.new.out.bytes) c.args.asked leaves
    c.do_command-in-Long.ensures.does.answers

pub returns-else-not-is_enough-clause-links : goal.returns-else-not-is_enough-clause-links
returns-else-not-is_enough-clause-links g c leaves =
    let over = c.do_kept.ensures.does in
    answered_links g.H.Disk.tells (g.C.Clients.meaning c.args.clients.now)
    (AreStreams over.input over.input') c.args.host.now c.do_kept.new.host
    (said_by c.do_kept.result c.do_kept.new.out.bytes) c.args.asked leaves over.done.answers
