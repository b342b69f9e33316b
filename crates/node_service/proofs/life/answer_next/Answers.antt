use Rattle.std.proofs.Common.{sym, ◌∙◌}
use Rattle.node_service.specs.Lives.{shown_bytes}
use Rattle.node_service.proofs.TellLemmas.{front_same, keeps_so, next_told, next_untold}
use Rattle.node_service.proofs.life.answer_next.Goals as goal

pub returns-in-Ok-clause-answers : goal.returns-in-Ok-clause-answers
returns-in-Ok-clause-answers g c = λ request words keeps.
    let keeps' = keeps_so request c.args.ear.now.reader.at c.in-Some-Some.size c.in-Some-Some.most
    c.args.ear.now.reader.kept c.kept-kept.result.now c.requires.whole
    (sym c.in-Some-Some.is-0 ∙ c.input_size.ensures) (sym c.in-Some-Some.is-1 ∙ c.asked.ensures)
    c.kept-kept.ensures keeps in
    let does = c.answer-reply.ensures.answered request (words ∙ sym c.words-words.ensures) keeps' in
    next_told (g.N.Node.answers c.args.node.now) request c.args.host.now c.answer-reply.new.host
    c.answer-reply.result.came _ c.answer-reply.result.ends _ _ does c.ended.result c.ended.ensures
    (rw c.shown_of.ensures at c.in-Ok.ensures.told)

pub returns-clause-answers : goal.returns-clause-answers
returns-clause-answers g c = λ request words keeps.
    let keeps' = keeps_so request c.args.ear.now.reader.at c.in-Some-Some.size c.in-Some-Some.most
    c.args.ear.now.reader.kept c.kept-kept.result.now c.requires.whole
    (sym c.in-Some-Some.is-0 ∙ c.input_size.ensures) (sym c.in-Some-Some.is-1 ∙ c.asked.ensures)
    c.kept-kept.ensures keeps in
    let does = c.answer-reply.ensures.answered request (words ∙ sym c.words-words.ensures) keeps' in
    next_untold (g.N.Node.answers c.args.node.now) request c.args.host.now c.answer-reply.new.host
    c.answer-reply.result.came
    (shown_bytes c.answer-reply.result.shown c.answer-reply.new.out.bytes)
    c.answer-reply.result.ends (g.W.Sink.tells c.args.out.now) (g.W.Sink.tells c.tell.new.out) does
    (front_same c.answer-reply.result.came c.shown_of.result.now
    (shown_bytes c.answer-reply.result.shown c.answer-reply.new.out.bytes)
    (g.W.Sink.tells c.args.out.now) (g.W.Sink.tells c.tell.new.out) c.shown_of.ensures
    c.in-Err.ensures.told)
