use Rattle.std.proofs.Common.{refl}
use Rattle.mailbox_commands.proofs.Sent.{mailed_none, mailed_on}
use Rattle.mailbox_commands.proofs.sending.send_mail.Goals as goal

pub returns-in_err-store : goal.returns-in_err-store
returns-in_err-store g c =
    let clients = g.C.Clients.meaning c.args.clients.now in
    let came = c.in_err-store.field-0.0 in
    let e = c.in_err-store.ensures in
    mailed_on clients c.args.asked _ _ _ _ c.from_residual.result came c.from_residual.ensures.1
    (mailed_none clients c.args.asked _ _ _ _ came e.run e.rests e.by e.loaded
    (record { same = refl; same_faults = refl }))

pub send_mail_loaded-requires : goal.send_mail_loaded-requires
send_mail_loaded-requires g c =
    record { ready = c.in_ok-store.ensures.opened; latency = c.requires }

pub returns : goal.returns
returns g c = c.send_mail_loaded.ensures.sent c.args.host.now (record {
  run = c.in_ok-store.ensures.run;
  rests = c.in_ok-store.ensures.rests;
  facts = c.in_ok-store.ensures.loaded;
  synced = c.in_ok-store.ensures.settled;
  opened = c.in_ok-store.ensures.opened;
})
