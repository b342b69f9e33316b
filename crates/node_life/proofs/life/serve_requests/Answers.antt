use Rattle.std.proofs.Common.{refl, inl, inr}
use Rattle.node_life.proofs.LifeLemmas.{lives_on}
use Rattle.node_life.proofs.life.serve_requests.Goals as goal

pub returns-in-Ok : goal.returns-in-Ok
returns-in-Ok g c =
    inr (lives_on g.H.Disk.tells (g.C.Clients.meaning c.args.clients.now) c.args.host.now
    c.begin.new.host c.serve.new.host _ _ _ _ c.serve.result
    (c.in-Ok.ensures.begun (g.W.Sink.tells c.args.out.now)) c.serve.ensures)

pub returns-in-Err : goal.returns-in-Err
returns-in-Err g c = inl (record {
  begun = c.in-Err.ensures.begun (g.W.Sink.tells c.args.out.now);
  undone = c.in-Err.ensures.undone;
  unread = record { same = refl; same_faults = refl };
  quiet = record { same = refl; same_faults = refl };
})
