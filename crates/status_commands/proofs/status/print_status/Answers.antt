use Rattle.std.proofs.Common.{refl}
use Rattle.status_commands.proofs.Told.{status_on, told_none}
use Rattle.status_commands.proofs.status.print_status.Goals as goal

pub returns-in_err-store : goal.returns-in_err-store
returns-in_err-store g c =
    let clients = g.C.Clients.meaning c.args.clients.now in
    let e = c.in_err-store.ensures in
    let came = c.in_err-store.field-0.0 in
    status_on clients _ _ _ _ c.from_residual.result came c.from_residual.ensures.1
    (told_none clients _ _ _ _ came e.run e.rests e.by e.loaded
    (record { same = refl; same_faults = refl }))

pub returns : goal.returns
returns g c =
    c.print_status_loaded.ensures (g.C.Clients.meaning c.args.clients.now) c.args.disk.now (record {
      run = c.in_ok-store.ensures.run;
      rests = c.in_ok-store.ensures.rests;
      facts = c.in_ok-store.ensures.loaded;
      synced = c.in_ok-store.ensures.settled;
      opened = c.in_ok-store.ensures.opened;
    })
