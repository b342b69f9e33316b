use Rattle.std.proofs.Common.{Ok, Err, sym, ◌∙◌}
use Rattle.sync_store.specs.declared.fault.StoreFault.TheVariants as fault
use Rattle.sync_store.proofs.Behind.{flush_behind}
use Rattle.sync_store.proofs.Gathered.{gathering_none}
use Rattle.sync_store.proofs.Runs.{rose_still}
use Rattle.mailbox_core.specs.Steps.{HasAddedBox}
use Rattle.mailbox_core.proofs.Flushed.{put_broken, put_closed, put_flushed}
use Rattle.mailbox_core.proofs.Joined.{closed_so, on_error, rose_behind}
use Rattle.mailbox_core.proofs.writing.put_added.Goals as goal

pub put_box-made-requires-clause-gathering : goal.put_box-made-requires-clause-gathering
put_box-made-requires-clause-gathering g c =
    gathering_none (g.C.Clients.meaning c.args.clients.now) c.args.store.now
    (g.D.Disk.tells c.args.disk.now).files c.requires.is_store c.requires.ready

pub flush-requires : goal.flush-requires
flush-requires g c = record {
  gathering = c.put_box-made.ensures.gathering
      (sym c.is_closed.ensures.closed ∙ c.if-is_closed.false);
}

pub returns-then-is_closed-clause-put : goal.returns-then-is_closed-clause-put
returns-then-is_closed-clause-put g c =
    put_closed (g.C.Clients.meaning c.args.clients.now) c.args.contact c.args.latency c.args.now
    c.args.count c.args.store.now (g.D.Disk.tells c.args.disk.now) c.requires.is_store
    c.requires.ready.still_open c.requires.ready.none_waits c.put_box-made.new.store
    (g.D.Disk.tells c.put_box-made.new.disk) c.put_box-made.new.to.items c.put_box-made.result
    c.put_box-made.ensures.put (sym c.is_closed.ensures.closed ∙ c.if-is_closed.true)

pub returns-in_err-flush-clause-put : goal.returns-in_err-flush-clause-put
returns-in_err-flush-clause-put g c =
    let clients = g.C.Clients.meaning c.args.clients.now in
    let s = c.args.store.now in
    let s1 = c.put_box-made.new.store in
    let s2 = c.flush.new.self in
    let o = g.D.Disk.tells c.args.disk.now in
    let o1 = g.D.Disk.tells c.put_box-made.new.disk in
    let o2 = g.D.Disk.tells c.flush.new.disk in
    let to = c.put_box-made.new.to.items in
    let e = c.in_err-flush.field-0.0 in
    let f = c.in_err-flush.ensures in
    on_error c.from_residual.result fault.DiskFault
    (λ r. HasAddedBox clients c.args.contact c.args.latency c.args.now c.args.count s s2 to r o o2)
    (rw f.err.0 at c.from_residual.ensures.1)
    (put_broken clients c.args.contact c.args.latency c.args.now c.args.count s o
    c.requires.is_store c.requires.ready.still_open c.requires.ready.none_waits s1 o1 to
    c.put_box-made.result c.put_box-made.ensures.put s2 o2
    (sym c.is_closed.ensures.closed ∙ c.if-is_closed.false)
    (closed_so s1 s2 f.err.1)
    (flush_behind clients s1 s2 (Err e) o1 o2 tt f.err c.flush.ensures.run f.calls
    c.flush.ensures.appends c.flush.ensures.adds))

pub returns-clause-put : goal.returns-clause-put
returns-clause-put g c =
    let clients = g.C.Clients.meaning c.args.clients.now in
    let s = c.args.store.now in
    let s1 = c.put_box-made.new.store in
    let s2 = c.flush.new.self in
    let o = g.D.Disk.tells c.args.disk.now in
    let o1 = g.D.Disk.tells c.put_box-made.new.disk in
    let o2 = g.D.Disk.tells c.flush.new.disk in
    let f = c.in_ok-flush.ensures in
    put_flushed clients c.args.contact c.args.latency c.args.now c.args.count s o
    c.requires.is_store c.requires.ready.still_open c.requires.ready.none_waits s1 o1
    c.put_box-made.new.to.items c.put_box-made.result c.put_box-made.ensures.put s2 o2
    (sym c.is_closed.ensures.closed ∙ c.if-is_closed.false) f.ok
    (flush_behind clients s1 s2 (Ok tt) o1 o2 f.ok tt c.flush.ensures.run f.calls
    c.flush.ensures.appends c.flush.ensures.adds)

pub returns-in_err-flush-clause-fault : goal.returns-in_err-flush-clause-fault
returns-in_err-flush-clause-fault g c is =
    rose_behind (g.D.Disk.tells c.args.disk.now).disk_faults
    (g.D.Disk.tells c.put_box-made.new.disk).disk_faults
    (g.D.Disk.tells c.flush.new.disk).disk_faults c.put_box-made.ensures.put.comes.run.later
    c.in_err-flush.ensures.fault.failed

pub returns-clause-fault : goal.returns-clause-fault
returns-clause-fault g c is =
    rose_still (g.D.Disk.tells c.args.disk.now).disk_faults
    (g.D.Disk.tells c.put_box-made.new.disk).disk_faults
    (g.D.Disk.tells c.flush.new.disk).disk_faults (c.put_box-made.ensures.fault is)
    c.flush.ensures.run.later
