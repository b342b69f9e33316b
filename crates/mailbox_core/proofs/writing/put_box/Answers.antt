use Rattle.mailbox_core.specs.Steps.{HasPutBox}
use Rattle.mailbox_core.proofs.Joined.{on_error}
use Rattle.mailbox_core.proofs.SendSteps.{box_not_begun, box_put}
use Rattle.mailbox_core.proofs.writing.put_box.Goals as goal

pub returns-in_err-session-clause-put : goal.returns-in_err-session-clause-put
returns-in_err-session-clause-put g c =
    let clients = g.C.Clients.meaning c.args.clients.now in
    let s = c.args.store.now in
    let o = g.D.Disk.tells c.args.disk.now in
    let o' = g.D.Disk.tells c.begin.new.disk in
    let to = c.args.to.now.items in
    on_error c.from_residual.result c.in_err-session.field-0.0
    (λ r. HasPutBox clients c.args.contact c.args.latency c.args.now c.args.count s
    c.begin.new.store to r o o')
    c.from_residual.ensures.1
    (box_not_begun clients c.args.contact c.args.latency c.args.now c.args.count s o
    c.begin.new.store to c.in_err-session.field-0.0 o' c.requires.settled
    c.in_err-session.ensures.begun)

pub returns-clause-put : goal.returns-clause-put
returns-clause-put g c =
    box_put (g.C.Clients.meaning c.args.clients.now) c.args.contact c.args.latency c.args.now
    c.args.count c.args.store.now (g.D.Disk.tells c.args.disk.now) c.begin.new.store
    c.put_all.new.store c.in_ok-session.session (g.D.Disk.tells c.begin.new.disk)
    (g.D.Disk.tells c.put_all.new.disk) c.args.to.now.items c.put_all.new.to.items
    c.in_ok-session.ensures.begun c.put_all.result c.requires.versions c.put_all.ensures.put
