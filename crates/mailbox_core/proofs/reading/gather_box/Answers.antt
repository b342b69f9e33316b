use Rattle.sync_store.specs.declared.fault.StoreFault.TheVariants as fault
use Rattle.mailbox_core.specs.Steps.{HasGatheredBox, left_of}
use Rattle.mailbox_core.proofs.BeginSteps.{box_not_begun, box_read_at, box_starved}
use Rattle.mailbox_core.proofs.Joined.{on_error}
use Rattle.mailbox_core.proofs.reading.gather_box.Goals as goal

pub returns-in_err-reader-clause-read : goal.returns-in_err-reader-clause-read
returns-in_err-reader-clause-read g c =
    let clients = g.C.Clients.meaning c.args.clients.now in
    let s = c.args.store.now in
    let o = g.D.Disk.tells c.args.disk.now in
    on_error c.from_residual.result fault.Memory
    (λ r. HasGatheredBox clients c.args.contact c.args.bytes.now s s r o o)
    c.from_residual.ensures.1
    (box_starved clients c.args.contact c.args.bytes.now s o c.images_stand.ensures
    c.requires.gathering.still_open)

pub returns-in_err-session-clause-read : goal.returns-in_err-session-clause-read
returns-in_err-session-clause-read g c =
    let clients = g.C.Clients.meaning c.args.clients.now in
    let s = c.args.store.now in
    let o = g.D.Disk.tells c.args.disk.now in
    let o' = g.D.Disk.tells c.begin.new.disk in
    on_error c.from_residual-in_err-session.result c.in_err-session.field-0.0
    (λ r. HasGatheredBox clients c.args.contact c.args.bytes.now s c.begin.new.store r o o')
    c.from_residual-in_err-session.ensures.1
    (box_not_begun clients c.args.contact c.args.bytes.now s o c.begin.new.store
    c.in_err-session.field-0.0 o' c.requires.settled c.in_err-session.ensures.begun)

pub returns-clause-read : goal.returns-clause-read
returns-clause-read g c =
    box_read_at (g.C.Clients.meaning c.args.clients.now) c.args.contact c.args.bytes.now
    c.args.store.now (g.D.Disk.tells c.args.disk.now) c.begin.new.store c.take_all.new.store
    c.in_ok-session.session (g.D.Disk.tells c.begin.new.disk) (g.D.Disk.tells c.take_all.new.disk)
    c.in_ok-session.ensures.begun _ c.take_all.result
    (λ i. left_of (c.in_ok-reader.ensures.fresh i) (c.new-piece.ensures i))
    c.take_all.ensures.read
