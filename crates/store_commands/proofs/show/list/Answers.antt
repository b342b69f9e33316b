use Rattle.std.proofs.Common.{refl}
use Rattle.store_commands.specs.Shown.{listing_shown}
use Rattle.store_commands.proofs.Looks.{looked_not}
use Rattle.store_commands.proofs.Passing.{looked_on}
use Rattle.store_commands.proofs.show.list.Goals as goal

pub returns-in_err-store : goal.returns-in_err-store
returns-in_err-store g c =
    let clients = g.C.Clients.meaning c.args.clients.now in
    looked_on c.from_residual.result c.in_err-store.field-0.0 c.from_residual.ensures.1 clients
    (listing_shown c.args.listing) _ _ _ _
    (looked_not clients (listing_shown c.args.listing) _ _ _ _ c.in_err-store.field-0.0
    c.in_err-store.ensures.run c.in_err-store.ensures.rests c.in_err-store.ensures.by
    c.in_err-store.ensures.loaded (record { same = refl; same_faults = refl }))

pub returns : goal.returns
returns g c =
    c.list_loaded.ensures (g.C.Clients.meaning c.args.clients.now) c.args.disk.now (record {
      run = c.in_ok-store.ensures.run;
      rests = c.in_ok-store.ensures.rests;
      facts = c.in_ok-store.ensures.loaded;
      synced = c.in_ok-store.ensures.settled;
      opened = c.in_ok-store.ensures.opened;
    })
