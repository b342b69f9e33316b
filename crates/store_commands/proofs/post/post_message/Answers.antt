use Rattle.std.proofs.Common.{refl}
use Rattle.store_commands.proofs.Passing.{posted_on}
use Rattle.store_commands.proofs.Posts.{posted_none}
use Rattle.store_commands.proofs.post.post_message.Goals as goal

pub returns-in_err-store : goal.returns-in_err-store
returns-in_err-store g c =
    let clients = g.C.Clients.meaning c.args.clients.now in
    posted_on c.from_residual.result c.in_err-store.field-0.0 c.from_residual.ensures.1 clients
    c.args.group c.args.timestamp _ _ _ _ _ _
    (posted_none clients c.args.group c.args.timestamp _ _ _ _ _ _ c.in_err-store.field-0.0
    c.in_err-store.ensures.run c.in_err-store.ensures.rests
    c.in_err-store.ensures.by c.in_err-store.ensures.loaded (record {
      same = refl;
      same_faults = refl;
    }) (record { same = refl; same_faults = refl }))

pub returns : goal.returns
returns g c = c.post_loaded.ensures.posted c.args.disk.now (record {
  run = c.in_ok-store.ensures.run;
  rests = c.in_ok-store.ensures.rests;
  facts = c.in_ok-store.ensures.loaded;
  synced = c.in_ok-store.ensures.settled;
  opened = c.in_ok-store.ensures.opened;
})
