use Rattle.std.proofs.Common.{refl}
use Rattle.store_commands.proofs.Compacts.{brief_none, made_on}
use Rattle.store_commands.proofs.compacting.compact.Goals as goal

pub returns-in_err-store : goal.returns-in_err-store
returns-in_err-store g c =
    let clients = g.C.Clients.meaning c.args.clients.now in
    made_on c.from_residual.result c.in_err-store.field-0.0 c.from_residual.ensures.1 clients _ _ _
    _
    (brief_none clients _ _ _ _ c.in_err-store.field-0.0 c.in_err-store.ensures.run
    c.in_err-store.ensures.rests c.in_err-store.ensures.by
    c.in_err-store.ensures.loaded (record { same = refl; same_faults = refl }))

pub returns : goal.returns
returns g c = c.compact_loaded.ensures.compacted c.args.disk.now (record {
  run = c.in_ok-store.ensures.run;
  rests = c.in_ok-store.ensures.rests;
  facts = c.in_ok-store.ensures.loaded;
  synced = c.in_ok-store.ensures.settled;
  opened = c.in_ok-store.ensures.opened;
})
