-- A message that ends says so by its line.
use Rattle.journal_play.proofs.Calls.{on_ok}
use Rattle.journal_play.proofs.Shown.{invalid_shown_at, delivered_shown_at}
use Rattle.journal_play.proofs.play.Play.make.Goals as goal

pub returns-in-Invalid-clause-shows : goal.returns-in-Invalid-clause-shows
returns-in-Invalid-clause-shows g c =
    on_ok c.end.result
    (invalid_shown_at (g.C.Clients.meaning c.args.clients.now) c.args.just.now c.args.step c.in-Invalid.n c.args.self.now c.end.new.self c.in-Invalid.is) c.end.ensures.ended

pub returns-in-Deliver-clause-shows : goal.returns-in-Deliver-clause-shows
returns-in-Deliver-clause-shows g c =
    on_ok c.end-in-Deliver.result
    (delivered_shown_at (g.C.Clients.meaning c.args.clients.now) c.args.just.now c.args.step c.in-Deliver.n c.args.self.now c.end-in-Deliver.new.self c.in-Deliver.is) c.end-in-Deliver.ensures.ended
