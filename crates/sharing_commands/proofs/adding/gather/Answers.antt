use Rattle.session_core.proofs.Unknown.{unknown}
use Rattle.sharing_commands.proofs.Fronts.{one_added, one_broken, one_left, one_refused}
use Rattle.sharing_commands.proofs.adding.gather.Goals as goal

pub gather_known-requires-clause-named : goal.gather_known-requires-clause-named
gather_known-requires-clause-named g c = unknown c.args.batch

pub returns-in-Ok-clause-adds : goal.returns-in-Ok-clause-adds
returns-in-Ok-clause-adds g c =
    one_added (g.C.Clients.meaning c.args.clients.now) c.args.store.now c.gather_known.new.self _ _
    c.args.batch tt c.in-Ok.ensures.run c.in-Ok.ensures.joins

pub returns-in-Err-Full-clause-adds : goal.returns-in-Err-Full-clause-adds
returns-in-Err-Full-clause-adds g c =
    one_refused (g.C.Clients.meaning c.args.clients.now) c.args.store.now c.gather_known.new.self _ _
    c.args.batch c.in-Err-Full.ensures.run (rw c.in-Err-Full.field-0-is at c.in-Err-Full.ensures.joins)

pub returns-in-Err-Memory-clause-adds : goal.returns-in-Err-Memory-clause-adds
returns-in-Err-Memory-clause-adds g c =
    one_left (g.C.Clients.meaning c.args.clients.now) c.args.store.now c.gather_known.new.self _ _
    c.args.batch c.in-Err-Memory.ensures.run (rw c.in-Err-Memory.field-0-is at c.in-Err-Memory.ensures.joins)

pub returns-in-Err-DiskFault-clause-adds : goal.returns-in-Err-DiskFault-clause-adds
returns-in-Err-DiskFault-clause-adds g c =
    one_broken (g.C.Clients.meaning c.args.clients.now) c.args.store.now c.gather_known.new.self _ _
    c.args.batch c.in-Err-DiskFault.ensures.run (rw c.in-Err-DiskFault.field-0-is at c.in-Err-DiskFault.ensures.joins)
