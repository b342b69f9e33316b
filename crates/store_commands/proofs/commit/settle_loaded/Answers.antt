use Rattle.std.proofs.Common.{refl, ap, ◌∙◌}
use Rattle.sync_store.specs.Store.{format_meant}
use Rattle.store_commands.proofs.Serving.{ready_now, served_now}
use Rattle.store_commands.proofs.Sessions.{leaves_at, settling_leaves}
use Rattle.store_commands.proofs.commit.settle_loaded.Goals as goal

pub returns-in-Ok-clause-settled : goal.returns-in-Ok-clause-settled
returns-in-Ok-clause-settled g c =
    let has = c.in-Ok.ensures.settled c.requires.ready.still_open in
    record { more = has.more; comes = has.comes; filled = has.filled; answer = has.answer }

pub returns-in-Ok-clause-ready : goal.returns-in-Ok-clause-ready
returns-in-Ok-clause-ready g c =
    c.in-Ok.ensures.ready (c.in-Ok.ensures.settled c.requires.ready.still_open).answer.0

pub returns-in-Err-Memory-clause-settled : goal.returns-in-Err-Memory-clause-settled
returns-in-Err-Memory-clause-settled g c =
    let has = c.in-Err-Memory.ensures.settled c.requires.ready.still_open in
    record { more = has.more; comes = has.comes; filled = has.filled; answer = tt }

pub returns-in-Err-DiskFault-clause-settled : goal.returns-in-Err-DiskFault-clause-settled
returns-in-Err-DiskFault-clause-settled g c =
    let has = c.in-Err-DiskFault.ensures.settled c.requires.ready.still_open in
    record { more = has.more; comes = has.comes; filled = has.filled; answer = tt }

pub returns-in-Err-DiskFault-clause-by : goal.returns-in-Err-DiskFault-clause-by
returns-in-Err-DiskFault-clause-by g c =
    (rw c.in-Err-DiskFault.field-0-is at c.in-Err-DiskFault.ensures.fault) refl

pub returns-in-Ok-clause-serves : goal.returns-in-Ok-clause-serves
returns-in-Ok-clause-serves g c was =
    let has = c.in-Ok.ensures.settled c.requires.ready.still_open in
    served_now (g.C.Clients.meaning c.args.clients.now) c.settle.new.self
    (g.D.Disk.tells c.settle.new.disk) (c.in-Ok.ensures.ready has.answer.0)
    (has.comes.limit ∙ was.loaded.opened.limited) (ap format_meant has.comes.format ∙ was.short)
    has.answer.1

pub returns-in-Err-Memory-clause-serves : goal.returns-in-Err-Memory-clause-serves
returns-in-Err-Memory-clause-serves g c was =
    let has = rw c.in-Err-Memory.field-0-is at c.in-Err-Memory.ensures.settled
    c.requires.ready.still_open in
    ready_now (g.C.Clients.meaning c.args.clients.now) c.settle.new.self
    (g.D.Disk.tells c.settle.new.disk) (c.in-Err-Memory.ensures.ready has.answer)
    (has.comes.limit ∙ was.loaded.opened.limited) (ap format_meant has.comes.format ∙ was.short)

pub returns-in-Ok-clause-sessions : goal.returns-in-Ok-clause-sessions
returns-in-Ok-clause-sessions g c =
    let has = c.in-Ok.ensures.settled c.requires.ready.still_open in
    leaves_at c.args.store.now c.settle.new.self _ has.comes.facts
    (settling_leaves (g.C.Clients.meaning c.args.clients.now) c.args.store.now.state.facts has.more
    has.comes.settling)

pub returns-in-Err-Memory-clause-sessions : goal.returns-in-Err-Memory-clause-sessions
returns-in-Err-Memory-clause-sessions g c =
    let has = c.in-Err-Memory.ensures.settled c.requires.ready.still_open in
    leaves_at c.args.store.now c.settle.new.self _ has.comes.facts
    (settling_leaves (g.C.Clients.meaning c.args.clients.now) c.args.store.now.state.facts has.more
    has.comes.settling)

pub returns-in-Err-DiskFault-clause-sessions : goal.returns-in-Err-DiskFault-clause-sessions
returns-in-Err-DiskFault-clause-sessions g c =
    let has = c.in-Err-DiskFault.ensures.settled c.requires.ready.still_open in
    leaves_at c.args.store.now c.settle.new.self _ has.comes.facts
    (settling_leaves (g.C.Clients.meaning c.args.clients.now) c.args.store.now.state.facts has.more
    has.comes.settling)
