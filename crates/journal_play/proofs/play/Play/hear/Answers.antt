-- A record is taken, and settling goes on from there.
use Rattle.journal_play.proofs.Shown.{hears_shown}
use Rattle.journal_play.proofs.Calls.{on_both}
use Rattle.journal_play.proofs.play.Play.hear.Goals as goal

pub returns : goal.returns
returns g c =
    on_both c.settle.result
    (λ reaches settled. λ def records played.
    hears_shown (g.C.Clients.meaning c.args.clients.now) def records c.args.self.now c.take.new.self c.settle.new.self c.args.heard c.in_ok-just.just played
    c.records_are_within.ensures c.in_ok-just.ensures.taken c.in_ok-just.ensures.just reaches settled)
    c.settle.ensures.reaches c.settle.ensures.settled
