use Rattle.std.proofs.Common.{◌≡◌, true, false, Result, Ok, Err, sym, ap, ◌∙◌, subst}
use Rattle.outside.proofs.CallSteps.{run_then}
use Rattle.sync_store.specs.declared.fault.StoreFault.{StoreFault}
use Rattle.sync_store.specs.Gathering.{SettlesOut}
use Rattle.sync_store.specs.Store.{StoreValue}
use Rattle.sync_store.proofs.Errors.{err_is}
use Rattle.sync_store.proofs.Behind.{flush_behind}
use Rattle.sync_store.proofs.Gathered.{keeps_flushed}
use Rattle.sync_store.proofs.Runs.{rose_still}
use Rattle.sync_store.proofs.SettleLoop.{out_added, out_broken, out_closed}
use Rattle.sync_store.proofs.store.Store.settle_gathered.Goals as goal

pub returns-then-self-clause-settles : goal.returns-then-self-clause-settles
returns-then-self-clause-settles g c before kept waits gathered =
    let clients = g.C.Clients.meaning c.args.clients.now in
    let o = g.D.Disk.tells c.args.disk.now in
    let o' = g.D.Disk.tells c.gather_settling-settled.new.disk in
    let closed : c.gather_settling-settled.new.self.closed ≡ true =
    ap (λ (v : StoreValue). v.closed) (sym c.self.view_is) ∙ c.if-self.true in
    out_closed clients before c.args.self.now c.gather_settling-settled.new.self waits
    c.gather_settling-settled.result o o' closed kept gathered
    c.gather_settling-settled.ensures.settles

pub flush-requires : goal.flush-requires
flush-requires g c = record {
  gathering =
      c.gather_settling-settled.ensures.gathering
      (ap (λ (v : StoreValue). v.closed) (sym c.self.view_is) ∙ c.if-self.false);
}

pub returns-in_err-flush-clause-settles : goal.returns-in_err-flush-clause-settles
returns-in_err-flush-clause-settles g c before kept waits gathered =
    let clients = g.C.Clients.meaning c.args.clients.now in
    let s0 = c.args.self.now in
    let s = c.gather_settling-settled.new.self in
    let new = c.flush.new.self in
    let o = g.D.Disk.tells c.args.disk.now in
    let o1 = g.D.Disk.tells c.gather_settling-settled.new.disk in
    let o2 = g.D.Disk.tells c.flush.new.disk in
    let was : s.closed ≡ false = ap (λ (v : StoreValue). v.closed) (sym c.self.view_is)
    ∙ c.if-self.false in
    let e = c.in_err-flush.field-0.0 in
    let f = c.in_err-flush.ensures in
    subst (λ (r : Result (Unit {0}) StoreFault). SettlesOut clients before s0 new waits r o o2)
    (sym (err_is c.from_residual.result e c.from_residual.ensures.1
    ∙ ap (λ (x : StoreFault). Err x) f.err.0))
    (out_broken clients before s0 s new waits c.gather_settling-settled.result o o1 o2 was kept
    gathered c.gather_settling-settled.ensures.settles (keeps_flushed s new (Err e) tt f.err)
    (flush_behind clients s new (Err e) o1 o2 tt f.err c.flush.ensures.run f.calls
    c.flush.ensures.appends c.flush.ensures.adds)
    (ap (λ (v : StoreValue). v.closed) f.err.1))

pub returns-clause-settles : goal.returns-clause-settles
returns-clause-settles g c before kept waits gathered =
    let clients = g.C.Clients.meaning c.args.clients.now in
    let s0 = c.args.self.now in
    let s = c.gather_settling-settled.new.self in
    let new = c.flush.new.self in
    let o = g.D.Disk.tells c.args.disk.now in
    let o1 = g.D.Disk.tells c.gather_settling-settled.new.disk in
    let o2 = g.D.Disk.tells c.flush.new.disk in
    let was : s.closed ≡ false = ap (λ (v : StoreValue). v.closed) (sym c.self.view_is)
    ∙ c.if-self.false in
    let f = c.in_ok-flush.ensures in
    out_added clients before s0 s new waits c.gather_settling-settled.result o o1 o2 was kept
    gathered c.gather_settling-settled.ensures.settles (keeps_flushed s new (Ok tt) f.ok tt)
    (flush_behind clients s new (Ok tt) o1 o2 f.ok tt c.flush.ensures.run f.calls
    c.flush.ensures.appends c.flush.ensures.adds)
    (ap (λ (v : StoreValue). v.closed) f.ok ∙ was)

pub returns-in_err-flush-clause-run : goal.returns-in_err-flush-clause-run
returns-in_err-flush-clause-run g c =
    run_then (g.D.Disk.tells c.args.disk.now) (g.D.Disk.tells c.gather_settling-settled.new.disk)
    (g.D.Disk.tells c.flush.new.disk) c.gather_settling-settled.ensures.run c.flush.ensures.run

pub returns-clause-run : goal.returns-clause-run
returns-clause-run g c =
    run_then (g.D.Disk.tells c.args.disk.now) (g.D.Disk.tells c.gather_settling-settled.new.disk)
    (g.D.Disk.tells c.flush.new.disk) c.gather_settling-settled.ensures.run c.flush.ensures.run

pub returns-clause-fault : goal.returns-clause-fault
returns-clause-fault g c is =
    rose_still (g.D.Disk.tells c.args.disk.now).disk_faults
    (g.D.Disk.tells c.gather_settling-settled.new.disk).disk_faults
    (g.D.Disk.tells c.flush.new.disk).disk_faults (c.gather_settling-settled.ensures.fault is)
    c.flush.ensures.run.later
