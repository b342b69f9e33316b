use Rattle.std.proofs.Common.{◌≡◌, false, Ok, Err, sym, ◌∙◌}
use Rattle.sync_store.specs.declared.fault.StoreFault.TheVariants as fault
use Rattle.sync_store.proofs.Behind.{flush_behind}
use Rattle.sync_store.proofs.Gathered.{gathering_none}
use Rattle.sync_store.proofs.Runs.{rose_still}
use Rattle.mailbox_core.specs.Reading.{HasReadBox}
use Rattle.mailbox_core.proofs.Flushed.{read_broken, read_closed, read_flushed}
use Rattle.mailbox_core.proofs.Joined.{closed_so, on_error, rose_behind}
use Rattle.mailbox_core.proofs.reading.read_box.Goals as goal

pub gather_box-read-requires-clause-gathering : goal.gather_box-read-requires-clause-gathering
gather_box-read-requires-clause-gathering g c =
    let still : c.args.store.now.closed ≡ false =
    sym c.is_closed.ensures.closed ∙ c.if-is_closed.false in
    gathering_none (g.C.Clients.meaning c.args.clients.now) c.args.store.now
    (g.D.Disk.tells c.args.disk.now).files c.is_closed.ensures.numbers (c.requires.ready still)

pub flush-requires : goal.flush-requires
flush-requires g c = record {
  gathering = c.gather_box-read.ensures.gathering
      (sym c.is_closed-2.ensures.closed ∙ c.if-is_closed-2.false);
}

pub returns-then-is_closed-2-clause-read : goal.returns-then-is_closed-2-clause-read
returns-then-is_closed-2-clause-read g c still =
    read_closed (g.C.Clients.meaning c.args.clients.now) c.args.contact c.args.bytes.now
    c.args.store.now (g.D.Disk.tells c.args.disk.now) c.is_closed.ensures.numbers still
    (c.requires.ready still).none_waits c.gather_box-read.new.store
    (g.D.Disk.tells c.gather_box-read.new.disk) c.gather_box-read.result
    c.gather_box-read.ensures.read
    (sym c.is_closed-2.ensures.closed ∙ c.if-is_closed-2.true)

pub returns-in_err-flush-clause-read : goal.returns-in_err-flush-clause-read
returns-in_err-flush-clause-read g c still =
    let clients = g.C.Clients.meaning c.args.clients.now in
    let s = c.args.store.now in
    let s1 = c.gather_box-read.new.store in
    let s2 = c.flush.new.self in
    let o = g.D.Disk.tells c.args.disk.now in
    let o1 = g.D.Disk.tells c.gather_box-read.new.disk in
    let o2 = g.D.Disk.tells c.flush.new.disk in
    let e = c.in_err-flush.field-0.0 in
    let f = c.in_err-flush.ensures in
    on_error c.from_residual.result fault.DiskFault
    (λ r. HasReadBox clients c.args.contact c.args.bytes.now s s2 r o o2)
    (rw f.err.0 at c.from_residual.ensures.1)
    (read_broken clients c.args.contact c.args.bytes.now s o c.is_closed.ensures.numbers still
    (c.requires.ready still).none_waits s1 o1 c.gather_box-read.result
    c.gather_box-read.ensures.read s2 o2
    (sym c.is_closed-2.ensures.closed ∙ c.if-is_closed-2.false)
    (closed_so s1 s2 f.err.1)
    (flush_behind clients s1 s2 (Err e) o1 o2 tt f.err c.flush.ensures.run f.calls
    c.flush.ensures.appends c.flush.ensures.adds))

pub returns-clause-read : goal.returns-clause-read
returns-clause-read g c still =
    let clients = g.C.Clients.meaning c.args.clients.now in
    let s = c.args.store.now in
    let s1 = c.gather_box-read.new.store in
    let s2 = c.flush.new.self in
    let o = g.D.Disk.tells c.args.disk.now in
    let o1 = g.D.Disk.tells c.gather_box-read.new.disk in
    let o2 = g.D.Disk.tells c.flush.new.disk in
    let f = c.in_ok-flush.ensures in
    read_flushed clients c.args.contact c.args.bytes.now s o c.is_closed.ensures.numbers still
    (c.requires.ready still).none_waits s1 o1 c.gather_box-read.result
    c.gather_box-read.ensures.read s2 o2
    (sym c.is_closed-2.ensures.closed ∙ c.if-is_closed-2.false) f.ok
    (flush_behind clients s1 s2 (Ok tt) o1 o2 f.ok tt c.flush.ensures.run f.calls
    c.flush.ensures.appends c.flush.ensures.adds)

pub returns-in_err-flush-clause-fault : goal.returns-in_err-flush-clause-fault
returns-in_err-flush-clause-fault g c is =
    rose_behind (g.D.Disk.tells c.args.disk.now).disk_faults
    (g.D.Disk.tells c.gather_box-read.new.disk).disk_faults
    (g.D.Disk.tells c.flush.new.disk).disk_faults c.gather_box-read.ensures.read.comes.run.later
    c.in_err-flush.ensures.fault.failed

pub returns-clause-fault : goal.returns-clause-fault
returns-clause-fault g c is =
    rose_still (g.D.Disk.tells c.args.disk.now).disk_faults
    (g.D.Disk.tells c.gather_box-read.new.disk).disk_faults
    (g.D.Disk.tells c.flush.new.disk).disk_faults (c.gather_box-read.ensures.fault is)
    c.flush.ensures.run.later
