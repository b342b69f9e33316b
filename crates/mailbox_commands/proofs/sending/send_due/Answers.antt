use Rattle.std.proofs.Common.{refl}
use Rattle.mailbox_commands.proofs.Sent.{sent_all, sent_disk, sent_full, sent_memory}
use Rattle.mailbox_commands.proofs.sending.send_due.Goals as goal

pub returns-in-Ok-clause-sent : goal.returns-in-Ok-clause-sent
returns-in-Ok-clause-sent g c =
    let clients = g.C.Clients.meaning c.args.clients.now in
    sent_all clients c.args.asked c.args.now c.args.store.now c.write_box.new.store _ _ _ _
    c.in-Ok.field-0 tt
    (c.in-Ok.ensures.written c.requires.ready.still_open)

pub returns-in-Err-Full-clause-sent : goal.returns-in-Err-Full-clause-sent
returns-in-Err-Full-clause-sent g c =
    let clients = g.C.Clients.meaning c.args.clients.now in
    sent_full clients c.args.asked c.args.now c.args.store.now c.write_box.new.store _ _ _ _
    (rw c.in-Err-Full.field-0-is at c.in-Err-Full.ensures.written c.requires.ready.still_open)

pub returns-in-Err-Memory-clause-sent : goal.returns-in-Err-Memory-clause-sent
returns-in-Err-Memory-clause-sent g c =
    let clients = g.C.Clients.meaning c.args.clients.now in
    sent_memory clients c.args.asked c.args.now c.args.store.now c.write_box.new.store _ _ _ _
    (rw c.in-Err-Memory.field-0-is at c.in-Err-Memory.ensures.written c.requires.ready.still_open)

pub returns-in-Err-DiskFault-clause-sent : goal.returns-in-Err-DiskFault-clause-sent
returns-in-Err-DiskFault-clause-sent g c =
    let clients = g.C.Clients.meaning c.args.clients.now in
    sent_disk clients c.args.asked c.args.now c.args.store.now c.write_box.new.store _ _ _ _
    (rw c.in-Err-DiskFault.field-0-is at c.in-Err-DiskFault.ensures.written
    c.requires.ready.still_open)
    ((rw c.in-Err-DiskFault.field-0-is at c.in-Err-DiskFault.ensures.fault) refl)

pub returns-in-Ok-clause-stays : goal.returns-in-Ok-clause-stays
returns-in-Ok-clause-stays g c =
    let has = c.in-Ok.ensures.written c.requires.ready.still_open in
    c.in-Ok.ensures.ready has.answer.0

pub returns-in-Ok-clause-settled : goal.returns-in-Ok-clause-settled
returns-in-Ok-clause-settled g c =
    let has = c.in-Ok.ensures.written c.requires.ready.still_open in
    has.answer.1

pub returns-in-Err-Full-clause-stays : goal.returns-in-Err-Full-clause-stays
returns-in-Err-Full-clause-stays g c =
    let has = rw c.in-Err-Full.field-0-is at c.in-Err-Full.ensures.written c.requires.ready.still_open in
    c.in-Err-Full.ensures.ready has.answer.0

pub returns-in-Err-Full-clause-settled : goal.returns-in-Err-Full-clause-settled
returns-in-Err-Full-clause-settled g c =
    let has = rw c.in-Err-Full.field-0-is at c.in-Err-Full.ensures.written c.requires.ready.still_open in
    has.answer.1

pub returns-in-Err-Memory-clause-stays : goal.returns-in-Err-Memory-clause-stays
returns-in-Err-Memory-clause-stays g c =
    let has = rw c.in-Err-Memory.field-0-is at c.in-Err-Memory.ensures.written c.requires.ready.still_open in
    c.in-Err-Memory.ensures.ready has.answer.0
