use Rattle.std.proofs.Common.{◌≡◌, Ok, Err, refl, ap, ◌∙◌}
use Rattle.sync_store.specs.Store.{StoreValue}
use Rattle.sync_store.proofs.Behind.{flush_behind}
use Rattle.sync_store.proofs.Gathered.{keeps_flushed}
use Rattle.sync_node.proofs.BatchLaws.{adds_broke, flush_did}
use Rattle.sync_node.proofs.told.flush.Goals as goal

pub returns-in-Ok-clause-went : goal.returns-in-Ok-clause-went
returns-in-Ok-clause-went g c =
    let clients = g.C.Clients.meaning c.args.clients.now in
    let e = c.in-Ok.ensures in
    flush_did clients c.args.store.now c.flush.new.self (g.H.Disk.tells c.args.host.now)
    (g.H.Disk.tells c.flush.new.disk) c.requires.waits e.run
    (flush_behind clients c.args.store.now c.flush.new.self (Ok tt)
    (g.H.Disk.tells c.args.host.now) (g.H.Disk.tells c.flush.new.disk) e.ok tt e.run e.calls
    e.appends e.adds)
    (keeps_flushed c.args.store.now c.flush.new.self (Ok tt) e.ok tt)
    (ap (λ (v : StoreValue). v.closed) e.ok ∙ c.requires.waits.still_open) e.ready

pub returns-in-Err-clause-broke : goal.returns-in-Err-clause-broke
returns-in-Err-clause-broke g c =
    let clients = g.C.Clients.meaning c.args.clients.now in
    let e = c.in-Err.ensures in (
      refl,
      adds_broke clients c.args.store.now c.flush.new.self (g.H.Disk.tells c.args.host.now)
          (g.H.Disk.tells c.flush.new.disk) _ c.requires.waits e.run
          (flush_behind clients c.args.store.now c.flush.new.self (Err c.in-Err.field-0)
          (g.H.Disk.tells c.args.host.now) (g.H.Disk.tells c.flush.new.disk) tt e.err e.run
          e.calls e.appends e.adds)
          (ap (λ (v : StoreValue). v.closed) e.err.1) e.fault.failed,
    )
