use Rattle.std.proofs.Common.{Err, ap}
use Rattle.sync_store.specs.declared.fault.StoreFault.TheVariants as store_fault
use Rattle.sync_node.proofs.BatchLaws.{commit_breaks, commit_did, commit_idle}
use Rattle.sync_node.proofs.TakeLaws.{over_limit}
use Rattle.sync_node.proofs.told.commit.Goals as goal

pub returns-in-Err-Full-clause-undone : goal.returns-in-Err-Full-clause-undone
returns-in-Err-Full-clause-undone g c =
    let answer = rw c.in-Err-Full.field-0-is at c.in-Err-Full.ensures.answer in
    let unasked = rw c.in-Err-Full.field-0-is at c.in-Err-Full.ensures.unasked in
    record { stays = answer.2; same_host = unasked }

pub returns-in-Err-Memory-clause-undone : goal.returns-in-Err-Memory-clause-undone
returns-in-Err-Memory-clause-undone g c =
    let answer = rw c.in-Err-Memory.field-0-is at c.in-Err-Memory.ensures.answer in
    let unasked = rw c.in-Err-Memory.field-0-is at c.in-Err-Memory.ensures.unasked in
    record { stays = answer.2; same_host = unasked }

pub returns-in-Ok-clause-went : goal.returns-in-Ok-clause-went
returns-in-Ok-clause-went g c =
    commit_did _ _ _ c.args.batch _ _ _ c.requires.ready c.in-Ok.ensures.run
    c.in-Ok.ensures.calls.most c.in-Ok.ensures.appends c.in-Ok.ensures.answer c.in-Ok.ensures.ready
    (c.in-Ok.ensures.extends c.requires.ready.still_open)

pub returns-in-Err-Memory-clause-stopped : goal.returns-in-Err-Memory-clause-stopped
returns-in-Err-Memory-clause-stopped g c =
    let answer = rw c.in-Err-Memory.field-0-is at c.in-Err-Memory.ensures.answer in
    let unasked = rw c.in-Err-Memory.field-0-is at c.in-Err-Memory.ensures.unasked in
    commit_idle g.H.Disk.tells _ _ _ c.args.batch store_fault.Memory _ _ c.requires.ready
    c.in-Err-Memory.ensures.run answer.2 c.in-Err-Memory.ensures.ready unasked
    (c.in-Err-Memory.ensures.extends c.requires.ready.still_open)

pub returns-in-Err-DiskFault-clause-stopped : goal.returns-in-Err-DiskFault-clause-stopped
returns-in-Err-DiskFault-clause-stopped g c =
    let answer = rw c.in-Err-DiskFault.field-0-is at c.in-Err-DiskFault.ensures.answer in
    commit_breaks _ _ _ c.args.batch _ _ c.requires.ready c.in-Err-DiskFault.ensures.run
    c.in-Err-DiskFault.ensures.calls.most c.in-Err-DiskFault.ensures.appends answer
    (c.in-Err-DiskFault.ensures.extends c.requires.ready.still_open)
    (c.in-Err-DiskFault.ensures.fault (ap (λ e. Err e) c.in-Err-DiskFault.field-0-is))

pub returns-in-Err-Full-clause-stopped : goal.returns-in-Err-Full-clause-stopped
returns-in-Err-Full-clause-stopped g c =
    let answer = rw c.in-Err-Full.field-0-is at c.in-Err-Full.ensures.answer in
    let unasked = rw c.in-Err-Full.field-0-is at c.in-Err-Full.ensures.unasked in
    record {
      idle =
          commit_idle g.H.Disk.tells _ _ _ c.args.batch store_fault.Full _ _ c.requires.ready
          c.in-Err-Full.ensures.run answer.2 c.in-Err-Full.ensures.ready unasked
          (c.in-Err-Full.ensures.extends c.requires.ready.still_open);
      before = answer.1;
      over = over_limit _ _ c.args.batch answer;
    }
