use Rattle.std.proofs.Common.{ℕ, List, ◌++◌, Err, subst, sym, ap, ◌∙◌}
use Rattle.sync_store.specs.declared.fault.StoreFault.TheVariants as fault
use Rattle.mailbox_core.specs.Sending.{HasWrittenBox}
use Rattle.mailbox_core.proofs.Flushed.{box_failed, box_unwritten, box_written}
use Rattle.mailbox_core.proofs.Joined.{on_error}
use Rattle.mailbox_core.proofs.SendSteps.{box_starved}
use Rattle.mailbox_core.proofs.writing.write_box.Goals as goal

pub returns-in_err-bytes-clause-written : goal.returns-in_err-bytes-clause-written
returns-in_err-bytes-clause-written g c = λ opened.
    let clients = g.C.Clients.meaning c.args.clients.now in
    let s = c.args.store.now in
    let o = g.D.Disk.tells c.args.disk.now in
    let to = c.args.to.now.items in
    on_error c.from_residual.result fault.Memory
    (λ r. HasWrittenBox clients c.args.contact c.args.latency c.args.now c.args.count s s to to r o
    o)
    c.from_residual.ensures.1
    (box_starved clients c.args.contact c.args.latency c.args.now c.args.count s o
    c.images_stand.ensures c.is_closed.ensures.numbers opened (c.requires.ready opened).none_waits
    to)

pub returns-in_err-made-clause-written : goal.returns-in_err-made-clause-written
returns-in_err-made-clause-written g c = λ opened.
    let clients = g.C.Clients.meaning c.args.clients.now in
    let s = c.args.store.now in
    let o = g.D.Disk.tells c.args.disk.now in
    let o' = g.D.Disk.tells c.put_added.new.disk in
    let to = c.args.to.now.items in
    on_error c.from_residual-in_err-made.result c.in_err-made.field-0.0
    (λ r. HasWrittenBox clients c.args.contact c.args.latency c.args.now c.args.count s
    c.put_added.new.store to to r o o')
    c.from_residual-in_err-made.ensures.1
    (box_failed clients c.args.contact c.args.latency c.args.now c.args.count s
    c.put_added.new.store o o' to c.put_added.new.to.items c.in_err-made.field-0.0
    c.in_err-made.ensures.put)

pub returns-in_err-extend_from_slice-clause-written :
    goal.returns-in_err-extend_from_slice-clause-written
returns-in_err-extend_from_slice-clause-written g c = λ opened.
    let clients = g.C.Clients.meaning c.args.clients.now in
    let s = c.args.store.now in
    let o = g.D.Disk.tells c.args.disk.now in
    let o' = g.D.Disk.tells c.put_added.new.disk in
    let to = c.args.to.now.items in
    on_error c.from_residual-in_err-extend_from_slice.result fault.Memory
    (λ r. HasWrittenBox clients c.args.contact c.args.latency c.args.now c.args.count s
    c.put_added.new.store to c.extend_from_slice.new.self.items r o o')
    c.from_residual-in_err-extend_from_slice.ensures.1
    (subst (λ (bytes : List ℕ). HasWrittenBox clients c.args.contact c.args.latency c.args.now
    c.args.count s c.put_added.new.store to bytes (Err fault.Memory) o o')
    (sym c.in_err-extend_from_slice.ensures.items)
    (box_unwritten clients c.args.contact c.args.latency c.args.now c.args.count s
    c.put_added.new.store o o' to c.put_added.new.to.items c.in_ok-made.made
    c.in_ok-made.ensures.put))

pub returns-clause-written : goal.returns-clause-written
returns-clause-written g c = λ opened.
    box_written (g.C.Clients.meaning c.args.clients.now) c.args.contact c.args.latency c.args.now
    c.args.count c.args.store.now c.put_added.new.store (g.D.Disk.tells c.args.disk.now)
    (g.D.Disk.tells c.put_added.new.disk) c.args.to.now.items c.put_added.new.to.items
    c.in_ok-made.made c.extend_from_slice.new.self.items c.in_ok-made.ensures.put
    (c.in_ok-extend_from_slice.ensures.items
    ∙ ap (λ xs. c.args.to.now.items ++ xs) c.as_slice.ensures.value)
