-- Each turn makes the next step.
use Rattle.std.proofs.Common.{sym}
use Rattle.journal_play.proofs.Shown.{shown_itself, shown_step}
use Rattle.journal_play.proofs.Work.{less_done}
use Rattle.journal_play.proofs.play.Play.settle.Goals as goal

pub steps-init : goal.steps-init
steps-init g c = λ story def k j shows fresh s. shown_itself (g.C.Clients.meaning c.args.clients.now) def k j story c.args.self.now shows s

pub steps-preserved : goal.steps-preserved
steps-preserved g c = λ story def k j shows fresh s.
    shown_step (g.C.Clients.meaning c.args.clients.now) def k j c.args.just.now story c.steps.self c.make.new.self (c.steps.invariant story def k j shows fresh s) fresh
    c.in-Some.step (sym c.in-Some.ensures) c.in_ok-make.ensures.shows

pub steps-smaller : goal.steps-smaller
steps-smaller g c = less_done c.in-Some.step c.steps.self.nodes c.make.new.self.nodes (sym c.in-Some.ensures) c.in_ok-make.ensures.done
