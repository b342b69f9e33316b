use Rattle.std.proofs.Common.{Ok, Err, sym, ap, ◌∙◌}
use Rattle.sync_store.specs.Store.{StoreValue}
use Rattle.sync_store.proofs.Behind.{flush_behind}
use Rattle.mailbox_core.proofs.Joined.{closed_so, rose_behind}
use Rattle.sharing_commands.specs.Agreement.{agreed_batches}
use Rattle.sharing_commands.proofs.Standing.{by_then, front_broken, front_closed, front_flushed, gathers_for}
use Rattle.sharing_commands.proofs.Standing.{gathers_open, known_closed, known_flushed}
use Rattle.sharing_commands.proofs.agreeing.add_agreed.Goals as goal

pub gather_agreed-gathered-requires : goal.gather_agreed-gathered-requires
gather_agreed-gathered-requires g c = record {
  stands = gathers_for (g.C.Clients.meaning c.args.clients.now) c.args.store.now
      (g.D.Disk.tells c.args.disk.now) c.args.contact c.requires.stands;
}

pub flush-requires : goal.flush-requires
flush-requires g c =
    let e = c.gather_agreed-gathered.ensures in
    record {
      gathering = gathers_open (g.C.Clients.meaning c.args.clients.now)
          c.gather_agreed-gathered.new.store (g.D.Disk.tells c.gather_agreed-gathered.new.disk)
          c.args.contact
          (agreed_batches (g.C.Clients.meaning c.args.clients.now) c.args.contact c.args.group.now
          c.args.store.now.state.facts) e.adds.front c.gather_agreed-gathered.result e.adds.answer
          (sym c.is_closed.ensures.closed ∙ c.if-is_closed.false) e.stands;
    }

pub returns-then-is_closed-clause-adds : goal.returns-then-is_closed-clause-adds
returns-then-is_closed-clause-adds g c =
    let clients = g.C.Clients.meaning c.args.clients.now in
    let s = c.args.store.now in
    front_closed clients s c.gather_agreed-gathered.new.store (g.D.Disk.tells c.args.disk.now)
    (g.D.Disk.tells c.gather_agreed-gathered.new.disk) c.args.contact
    (agreed_batches clients c.args.contact c.args.group.now s.state.facts)
    c.gather_agreed-gathered.result c.requires.stands c.gather_agreed-gathered.ensures.adds
    (sym c.is_closed.ensures.closed ∙ c.if-is_closed.true)

pub returns-then-is_closed-clause-stands : goal.returns-then-is_closed-clause-stands
returns-then-is_closed-clause-stands g c =
    known_closed (g.C.Clients.meaning c.args.clients.now) c.gather_agreed-gathered.new.store
    (g.D.Disk.tells c.gather_agreed-gathered.new.disk) c.args.contact
    c.gather_agreed-gathered.result (sym c.is_closed.ensures.closed ∙ c.if-is_closed.true)
    c.gather_agreed-gathered.ensures.stands (g.D.Disk.tells c.args.disk.now)
    c.gather_agreed-gathered.ensures.by

pub returns-in-Ok-clause-adds : goal.returns-in-Ok-clause-adds
returns-in-Ok-clause-adds g c =
    let clients = g.C.Clients.meaning c.args.clients.now in
    let s1 = c.gather_agreed-gathered.new.store in
    let s2 = c.flush.new.self in
    let o1 = g.D.Disk.tells c.gather_agreed-gathered.new.disk in
    let o2 = g.D.Disk.tells c.flush.new.disk in
    let f = c.in-Ok.ensures in
    let s = c.args.store.now in
    front_flushed clients s s1 (g.D.Disk.tells c.args.disk.now) o1 c.args.contact
    (agreed_batches clients c.args.contact c.args.group.now s.state.facts)
    c.gather_agreed-gathered.result c.requires.stands c.gather_agreed-gathered.ensures.adds s2 o2
    (sym c.is_closed.ensures.closed ∙ c.if-is_closed.false)
    (flush_behind clients s1 s2 (Ok tt) o1 o2 f.ok tt f.run f.calls f.appends f.adds) f.ok

pub returns-in-Err-clause-adds : goal.returns-in-Err-clause-adds
returns-in-Err-clause-adds g c =
    let clients = g.C.Clients.meaning c.args.clients.now in
    let s1 = c.gather_agreed-gathered.new.store in
    let s2 = c.flush.new.self in
    let o1 = g.D.Disk.tells c.gather_agreed-gathered.new.disk in
    let o2 = g.D.Disk.tells c.flush.new.disk in
    let f = c.in-Err.ensures in
    let s = c.args.store.now in
    front_broken clients s s1 (g.D.Disk.tells c.args.disk.now) o1 c.args.contact
    (agreed_batches clients c.args.contact c.args.group.now s.state.facts)
    c.gather_agreed-gathered.result c.requires.stands c.gather_agreed-gathered.ensures.adds s2 o2
    (sym c.is_closed.ensures.closed ∙ c.if-is_closed.false)
    (flush_behind clients s1 s2 (Err _) o1 o2 tt f.err f.run f.calls f.appends f.adds)
    (closed_so s1 s2 f.err.1)

pub returns-in-Ok-clause-stands : goal.returns-in-Ok-clause-stands
returns-in-Ok-clause-stands g c =
    let e = c.gather_agreed-gathered.ensures in
    let f = c.in-Ok.ensures in
    known_flushed (g.C.Clients.meaning c.args.clients.now) c.gather_agreed-gathered.new.store
    c.flush.new.self (g.D.Disk.tells c.args.disk.now)
    (g.D.Disk.tells c.gather_agreed-gathered.new.disk) (g.D.Disk.tells c.flush.new.disk)
    c.args.contact c.gather_agreed-gathered.result e.by e.stands f.ok
    (f.ready
    (ap (λ (v : StoreValue). v.closed) f.ok ∙ sym c.is_closed.ensures.closed
    ∙ c.if-is_closed.false)) f.numbers

pub returns-in-Ok-clause-by : goal.returns-in-Ok-clause-by
returns-in-Ok-clause-by g c =
    by_then (g.D.Disk.tells c.args.disk.now) (g.D.Disk.tells c.gather_agreed-gathered.new.disk)
    (g.D.Disk.tells c.flush.new.disk) c.gather_agreed-gathered.result
    c.gather_agreed-gathered.ensures.by c.in-Ok.ensures.run.later

pub returns-in-Err-clause-by : goal.returns-in-Err-clause-by
returns-in-Err-clause-by g c =
    rose_behind (g.D.Disk.tells c.args.disk.now).disk_faults
    (g.D.Disk.tells c.gather_agreed-gathered.new.disk).disk_faults
    (g.D.Disk.tells c.flush.new.disk).disk_faults
    c.gather_agreed-gathered.ensures.adds.comes.run.later c.in-Err.ensures.fault.failed
