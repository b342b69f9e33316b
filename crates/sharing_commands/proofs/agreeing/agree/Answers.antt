use Rattle.std.proofs.Common.{refl}
use Rattle.sharing_commands.proofs.Wholes.{agreed_none, agreed_on}
use Rattle.sharing_commands.proofs.agreeing.agree.Goals as goal

pub returns-in_err-store : goal.returns-in_err-store
returns-in_err-store g c =
    let clients = g.C.Clients.meaning c.args.clients.now in
    agreed_on clients c.args.contact c.args.group.now _ _ _ _ c.from_residual.result
    c.in_err-store.field-0.0 c.from_residual.ensures.1
    (agreed_none clients c.args.contact c.args.group.now _ _ _ _ c.in_err-store.field-0.0
    c.in_err-store.ensures.run c.in_err-store.ensures.rests c.in_err-store.ensures.by
    c.in_err-store.ensures.loaded (record { same = refl; same_faults = refl }))

pub returns : goal.returns
returns g c = c.agree_loaded.ensures.agreed c.args.disk.now (record {
  run = c.in_ok-store.ensures.run;
  rests = c.in_ok-store.ensures.rests;
  facts = c.in_ok-store.ensures.loaded;
  synced = c.in_ok-store.ensures.settled;
  opened = c.in_ok-store.ensures.opened;
})
