use Rattle.std.proofs.Common.{Err, ap}
use Rattle.sync_node.proofs.BatchLaws.{join_broke, join_did, join_full, join_starved}
use Rattle.sync_node.proofs.told.join.Goals as goal

pub returns-in-Ok-clause-went : goal.returns-in-Ok-clause-went
returns-in-Ok-clause-went g c =
    join_did _ _ _ c.args.batch _ _ _ c.requires.waits c.in-Ok.ensures.run c.in-Ok.ensures.joins
    c.in-Ok.ensures.gathering

pub returns-in-Err-Memory-clause-halted : goal.returns-in-Err-Memory-clause-halted
returns-in-Err-Memory-clause-halted g c =
    let joins = rw c.in-Err-Memory.field-0-is at c.in-Err-Memory.ensures.joins in
    join_starved _ _ _ c.args.batch _ _ c.requires.waits c.in-Err-Memory.ensures.run joins
    c.in-Err-Memory.ensures.gathering

pub returns-in-Err-DiskFault-clause-halted : goal.returns-in-Err-DiskFault-clause-halted
returns-in-Err-DiskFault-clause-halted g c =
    let joins = rw c.in-Err-DiskFault.field-0-is at c.in-Err-DiskFault.ensures.joins in
    join_broke _ _ _ c.args.batch _ _ c.requires.waits c.in-Err-DiskFault.ensures.run joins
    (c.in-Err-DiskFault.ensures.fault (ap (λ e. Err e) c.in-Err-DiskFault.field-0-is))

pub returns-in-Err-Full-clause-halted : goal.returns-in-Err-Full-clause-halted
returns-in-Err-Full-clause-halted g c =
    let joins = rw c.in-Err-Full.field-0-is at c.in-Err-Full.ensures.joins in
    join_full _ _ _ c.args.batch _ _ c.requires.waits c.in-Err-Full.ensures.run joins
    c.in-Err-Full.ensures.gathering
