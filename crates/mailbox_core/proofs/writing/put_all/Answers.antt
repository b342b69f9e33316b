use Rattle.std.proofs.Common.{◌≤◌, arith}
use Rattle.mailbox_core.specs.Steps.{HasPutAll}
use Rattle.mailbox_core.proofs.Joined.{on_error}
use Rattle.mailbox_core.proofs.SendSteps.{way_begins, way_ends, way_full, way_goes_on, way_stops}
use Rattle.mailbox_core.proofs.writing.put_all.Goals as goal

pub outs-init : goal.outs-init
outs-init g c = record {
  few = omega arith;
  way = way_begins c.images_stand.ensures (g.C.Clients.meaning c.args.clients.now)
      c.args.session.now c.args.now c.args.store.now c.args.to.now.items
      (g.D.Disk.tells c.args.disk.now) c.requires.able;
  able = c.requires.able;
}

pub returns-in_err-put_next-clause-put : goal.returns-in_err-put_next-clause-put
returns-in_err-put_next-clause-put g c =
    let clients = g.C.Clients.meaning c.args.clients.now in
    let o = g.D.Disk.tells c.args.disk.now in
    on_error c.from_residual.result c.in_err-put_next.field-0.0
    (λ r. HasPutAll clients c.args.session.now.number c.args.now c.args.count c.args.store.now
    c.put_next.new.store c.args.to.now.items c.put_next.new.to.items r o
    (g.D.Disk.tells c.put_next.new.disk))
    c.from_residual.ensures.1
    (way_stops clients c.args.session.now.number c.args.now c.args.store.now c.outs.store
    c.put_next.new.store c.args.to.now.items c.outs.to.items c.put_next.new.to.items
    c.outs.made (g.D.Disk.tells c.args.disk.now)
    (g.D.Disk.tells c.outs.disk) (g.D.Disk.tells c.put_next.new.disk)
    c.outs.invariant.way c.args.count c.in_err-put_next.field-0.0 (omega arith)
    c.in_err-put_next.ensures.put)

pub returns-then-not-branch-clause-put : goal.returns-then-not-branch-clause-put
returns-then-not-branch-clause-put g c =
    way_ends (g.C.Clients.meaning c.args.clients.now) c.args.session.now.number c.args.now
    c.args.store.now c.outs.store c.put_next.new.store c.args.to.now.items c.outs.to.items
    c.put_next.new.to.items c.outs.made (g.D.Disk.tells c.args.disk.now)
    (g.D.Disk.tells c.outs.disk) (g.D.Disk.tells c.put_next.new.disk)
    c.outs.invariant.way c.args.count c.outs.invariant.few
    (rw c.if-not-branch.true at c.in_ok-put_next.ensures.put) c.in_ok-put_next.ensures.able.settled

pub outs-preserved : goal.outs-preserved
outs-preserved g c = record {
  few = omega arith;
  way = way_goes_on (g.C.Clients.meaning c.args.clients.now) c.args.session.now.number c.args.now
      c.args.store.now c.outs.store c.put_next.new.store c.args.to.now.items c.outs.to.items
      c.put_next.new.to.items c.outs.made (g.D.Disk.tells c.args.disk.now)
      (g.D.Disk.tells c.outs.disk) (g.D.Disk.tells c.put_next.new.disk) c.outs.invariant.way
      (rw c.if-not-branch.false at c.in_ok-put_next.ensures.put);
  able = c.in_ok-put_next.ensures.able;
}

pub returns-clause-put : goal.returns-clause-put
returns-clause-put g c =
    way_full (g.C.Clients.meaning c.args.clients.now) c.args.session.now.number c.args.now
    c.args.store.now c.outs.store c.outs.store c.args.to.now.items c.outs.to.items c.outs.to.items
    c.outs.made
    (g.D.Disk.tells c.args.disk.now)
    (g.D.Disk.tells c.outs.disk) (g.D.Disk.tells c.outs.disk)
    c.outs.invariant.way c.args.count
    (let few : c.outs.made ≤ c.args.count = c.outs.invariant.few in omega arith)
    c.outs.invariant.able.settled
