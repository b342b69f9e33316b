-- The message that was just held is judged.
use Rattle.std.proofs.Common.{ap, ◌∙◌}
use Rattle.std.specs.String.{string_bytes}
use Rattle.journal_play.specs.Playing.{Played, judged_of}
use Rattle.journal_play.proofs.Calls.{judge_is, on_ok}
use Rattle.journal_play.proofs.play.Play.judge.Goals as goal

pub returns : goal.returns
returns g c =
    let inside = c.self.inside in
    let clients = g.C.Clients.meaning c.args.clients.now in
    let view : Played = record { kind = inside.kind; group = inside.group; heads = inside.held.heads; nodes = inside.held.nodes; text = string_bytes inside.text } in
    on_ok c.judged.result (λ e.
    judge_is clients view c.args.self.now c.args.just.now c.in-Some.one c.in_ok-answer.answer c.judged.new.self c.args.n c.self.view_is
    c.in-Some.is c.if-one-n.false e (c.in_ok-answer.ensures ∙ ap judged_of c.in_ok-judgement.ensures)) c.judged.ensures
