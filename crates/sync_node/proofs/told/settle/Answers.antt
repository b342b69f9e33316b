use Rattle.std.proofs.Common.{Err, ap}
use Rattle.sync_node.proofs.BatchLaws.{settle_broke, settle_did, settle_starved}
use Rattle.sync_node.proofs.told.settle.Goals as goal

pub returns-in-Ok-clause-went : goal.returns-in-Ok-clause-went
returns-in-Ok-clause-went g c =
    settle_did _ _ _ _ _ _ c.requires.waits c.in-Ok.ensures.run c.in-Ok.ensures.settles
    c.in-Ok.ensures.gathering

pub returns-in-Err-Memory-clause-halted : goal.returns-in-Err-Memory-clause-halted
returns-in-Err-Memory-clause-halted g c =
    let has = rw c.in-Err-Memory.field-0-is at c.in-Err-Memory.ensures.settles in
    settle_starved _ _ _ _ _ c.requires.waits c.in-Err-Memory.ensures.run has
    c.in-Err-Memory.ensures.gathering

pub returns-in-Err-DiskFault-clause-halted : goal.returns-in-Err-DiskFault-clause-halted
returns-in-Err-DiskFault-clause-halted g c =
    let has = rw c.in-Err-DiskFault.field-0-is at c.in-Err-DiskFault.ensures.settles in
    settle_broke _ _ _ _ _ c.requires.waits c.in-Err-DiskFault.ensures.run has
    (c.in-Err-DiskFault.ensures.fault (ap (λ e. Err e) c.in-Err-DiskFault.field-0-is))
