use Rattle.std.proofs.Common.{refl}
use Rattle.mailbox_commands.proofs.Taken.{does_all, does_disk, does_full, does_memory}
use Rattle.mailbox_commands.proofs.taking.take_records.Goals as goal

pub returns-in-Ok-clause-does : goal.returns-in-Ok-clause-does
returns-in-Ok-clause-does g c =
    let clients = g.C.Clients.meaning c.args.clients.now in
    does_all clients c.args.contact c.args.bytes.now c.args.store.now c.read_box.new.store _ _
    c.in-Ok.end
    (c.in-Ok.ensures.read c.requires.ready.still_open)

pub returns-in-Err-Full-clause-does : goal.returns-in-Err-Full-clause-does
returns-in-Err-Full-clause-does g c =
    let clients = g.C.Clients.meaning c.args.clients.now in
    does_full clients c.args.contact c.args.bytes.now c.args.store.now c.read_box.new.store _ _
    (rw c.in-Err-Full.field-0-is at c.in-Err-Full.ensures.read c.requires.ready.still_open)

pub returns-in-Err-Memory-clause-does : goal.returns-in-Err-Memory-clause-does
returns-in-Err-Memory-clause-does g c =
    let clients = g.C.Clients.meaning c.args.clients.now in
    does_memory clients c.args.contact c.args.bytes.now c.args.store.now c.read_box.new.store _ _
    (rw c.in-Err-Memory.field-0-is at c.in-Err-Memory.ensures.read c.requires.ready.still_open)

pub returns-in-Err-DiskFault-clause-does : goal.returns-in-Err-DiskFault-clause-does
returns-in-Err-DiskFault-clause-does g c =
    let clients = g.C.Clients.meaning c.args.clients.now in
    does_disk clients c.args.contact c.args.bytes.now c.args.store.now c.read_box.new.store _ _
    (rw c.in-Err-DiskFault.field-0-is at c.in-Err-DiskFault.ensures.read
    c.requires.ready.still_open)
    ((rw c.in-Err-DiskFault.field-0-is at c.in-Err-DiskFault.ensures.fault) refl)

pub returns-in-Ok-clause-stays : goal.returns-in-Ok-clause-stays
returns-in-Ok-clause-stays g c =
    let has = c.in-Ok.ensures.read c.requires.ready.still_open in
    c.in-Ok.ensures.ready has.answer.0

pub returns-in-Ok-clause-settled : goal.returns-in-Ok-clause-settled
returns-in-Ok-clause-settled g c =
    let has = c.in-Ok.ensures.read c.requires.ready.still_open in
    has.answer.1

pub returns-in-Err-Full-clause-stays : goal.returns-in-Err-Full-clause-stays
returns-in-Err-Full-clause-stays g c =
    let has = rw c.in-Err-Full.field-0-is at c.in-Err-Full.ensures.read c.requires.ready.still_open in
    c.in-Err-Full.ensures.ready has.answer.0

pub returns-in-Err-Full-clause-settled : goal.returns-in-Err-Full-clause-settled
returns-in-Err-Full-clause-settled g c =
    let has = rw c.in-Err-Full.field-0-is at c.in-Err-Full.ensures.read c.requires.ready.still_open in
    has.answer.1

pub returns-in-Err-Memory-clause-stays : goal.returns-in-Err-Memory-clause-stays
returns-in-Err-Memory-clause-stays g c =
    let has = rw c.in-Err-Memory.field-0-is at c.in-Err-Memory.ensures.read c.requires.ready.still_open in
    c.in-Err-Memory.ensures.ready has.answer.0
