use Rattle.sync_node.specs.declared.fault.Fault.TheVariants as fault
use Rattle.sync_node.proofs.GroupLaws.{group_ends, group_failed, group_full_broke}
use Rattle.sync_node.proofs.GroupLaws.{group_starved_broke, group_stops}
use Rattle.sync_node.proofs.KeepLaws.{may_begin}
use Rattle.sync_node.proofs.hearing.take_group.Goals as goal

pub take_piece-requires-clause-may : goal.take_piece-requires-clause-may
take_piece-requires-clause-may g c = may_begin c.cite_store.ensures c.requires.able

pub returns-in_err-flush-in-Err-Memory-clause-work : goal.returns-in_err-flush-in-Err-Memory-clause-work
returns-in_err-flush-in-Err-Memory-clause-work g c =
    group_starved_broke c.cite_store.ensures c.requires.able.ready
    (rw c.in-Err-Memory.field-0-is at c.in-Err-Memory.ensures.work.halted)
    (rw c.in-Err-Memory.field-0-is at c.in-Err-Memory.ensures.work.keeps) _
    c.in_err-flush-in-Err-Memory.field-0.0 c.from_residual.ensures.1
    c.in_err-flush-in-Err-Memory.ensures.broke

pub returns-in_err-flush-in-Err-Full-clause-work : goal.returns-in_err-flush-in-Err-Full-clause-work
returns-in_err-flush-in-Err-Full-clause-work g c =
    group_full_broke c.cite_store.ensures c.requires.able.ready
    (rw c.in-Err-Full.field-0-is at c.in-Err-Full.ensures.work.halted)
    (rw c.in-Err-Full.field-0-is at c.in-Err-Full.ensures.work.keeps) _
    c.in_err-flush-in-Err-Full.field-0.0 c.from_residual-in_err-flush-in-Err-Full.ensures.1
    c.in_err-flush-in-Err-Full.ensures.broke

pub returns-in-Ok-clause-work : goal.returns-in-Ok-clause-work
returns-in-Ok-clause-work g c =
    group_ends c.cite_store.ensures c.requires.able.ready c.in-Ok.ensures.work.went
    c.in-Ok.ensures.work.keeps c.flush.result c.flush.ensures.went c.flush.ensures.broke

pub returns-in_ok-flush-in-Err-Memory-clause-work : goal.returns-in_ok-flush-in-Err-Memory-clause-work
returns-in_ok-flush-in-Err-Memory-clause-work g c =
    group_stops c.cite_store.ensures c.requires.able.ready fault.Memory (λ is. cc)
    (rw c.in-Err-Memory.field-0-is at c.in-Err-Memory.ensures.work.halted)
    (rw c.in-Err-Memory.field-0-is at c.in-Err-Memory.ensures.work.keeps)
    c.in_ok-flush-in-Err-Memory.ensures.went

pub returns-in_ok-flush-in-Err-Full-clause-work : goal.returns-in_ok-flush-in-Err-Full-clause-work
returns-in_ok-flush-in-Err-Full-clause-work g c =
    group_stops c.cite_store.ensures c.requires.able.ready fault.Full (λ is. cc)
    (rw c.in-Err-Full.field-0-is at c.in-Err-Full.ensures.work.halted)
    (rw c.in-Err-Full.field-0-is at c.in-Err-Full.ensures.work.keeps)
    c.in_ok-flush-in-Err-Full.ensures.went

pub returns-in-Err-DiskFault-clause-work : goal.returns-in-Err-DiskFault-clause-work
returns-in-Err-DiskFault-clause-work g c =
    group_failed c.cite_store.ensures c.requires.able.ready
    (rw c.in-Err-DiskFault.field-0-is at c.in-Err-DiskFault.ensures.work.halted)
    (rw c.in-Err-DiskFault.field-0-is at c.in-Err-DiskFault.ensures.work.keeps)
