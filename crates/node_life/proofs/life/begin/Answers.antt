use Rattle.std.proofs.Common.{ap, Err, Ok}
use Rattle.sync_words.specs.declared.outcome.Outcome.{Outcome}
use Rattle.node_life.specs.Settling.{HasBegun}
use Rattle.node_life.proofs.SettleLemmas.{begins_loaded, begins_not, on_err}
use Rattle.node_life.proofs.life.begin.Goals as goal

pub returns-in_err-store-clause-begun : goal.returns-in_err-store-clause-begun
returns-in_err-store-clause-begun g c = λ out.
    let e = c.in_err-store.ensures in
    on_err (λ (came : Outcome).
    HasBegun (g.C.Clients.meaning c.args.clients.now) (g.H.Disk.tells c.args.host.now)
    (g.H.Disk.tells c.load_store.new.disk) out came)
    c.from_residual.result c.in_err-store.field-0.0 c.from_residual.ensures.1
    (begins_not (g.C.Clients.meaning c.args.clients.now) (g.H.Disk.tells c.args.host.now)
    (g.H.Disk.tells c.load_store.new.disk) out c.in_err-store.field-0.0 e.run e.rests e.by e.loaded)

pub returns-in_err-migrate_and_settle-clause-begun : goal.returns-in_err-migrate_and_settle-clause-begun
returns-in_err-migrate_and_settle-clause-begun g c = λ out.
    let l = c.in_ok-store.ensures in
    let e = c.in_err-migrate_and_settle.ensures in
    let came = c.in_err-migrate_and_settle.field-0.0 in
    on_err (λ (x : Outcome).
    HasBegun (g.C.Clients.meaning c.args.clients.now) (g.H.Disk.tells c.args.host.now)
    (g.H.Disk.tells c.migrate_and_settle.new.disk) out x)
    c.from_residual-in_err-migrate_and_settle.result came
    c.from_residual-in_err-migrate_and_settle.ensures.1
    (begins_loaded (g.C.Clients.meaning c.args.clients.now) c.in_ok-store.store
    c.migrate_and_settle.new.store (g.H.Disk.tells c.args.host.now)
    (g.H.Disk.tells c.load_store.new.disk) (g.H.Disk.tells c.migrate_and_settle.new.disk) out
    (Err came) l.run l.rests l.opened e.run e.by (λ is. ap g.H.Disk.tells (e.untouched is))
    e.settled)

pub returns-clause-begun : goal.returns-clause-begun
returns-clause-begun g c = λ out.
    let l = c.in_ok-store.ensures in
    let e = c.in_ok-migrate_and_settle.ensures in
    begins_loaded (g.C.Clients.meaning c.args.clients.now) c.in_ok-store.store
    c.migrate_and_settle.new.store (g.H.Disk.tells c.args.host.now)
    (g.H.Disk.tells c.load_store.new.disk) (g.H.Disk.tells c.migrate_and_settle.new.disk) out
    (Ok tt) l.run l.rests l.opened e.run e.by (λ is. ap g.H.Disk.tells (e.untouched is)) e.settled
