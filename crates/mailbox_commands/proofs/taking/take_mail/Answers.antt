use Rattle.std.proofs.Common.{refl}
use Rattle.mailbox_commands.proofs.Taken.{taken_none, taken_on}
use Rattle.mailbox_commands.proofs.taking.take_mail.Goals as goal

pub returns-in_err-store : goal.returns-in_err-store
returns-in_err-store g c =
    let clients = g.C.Clients.meaning c.args.clients.now in
    let came = c.in_err-store.field-0.0 in
    let e = c.in_err-store.ensures in
    taken_on clients c.args.contact _ _ _ _ _ _ c.from_residual.result came
    c.from_residual.ensures.1
    (taken_none clients c.args.contact _ _ _ _ _ _ came e.run e.rests e.by e.loaded
    (record { same = refl; same_faults = refl }) (record { same = refl; same_faults = refl }))

pub returns : goal.returns
returns g c = c.take_mail_loaded.ensures.taken c.args.disk.now (record {
  run = c.in_ok-store.ensures.run;
  rests = c.in_ok-store.ensures.rests;
  facts = c.in_ok-store.ensures.loaded;
  synced = c.in_ok-store.ensures.settled;
  opened = c.in_ok-store.ensures.opened;
})
