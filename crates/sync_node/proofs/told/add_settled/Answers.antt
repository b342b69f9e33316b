use Rattle.std.proofs.Common.{Err, ap, ◌∙◌}
use Rattle.sync_node.proofs.BatchLaws.{add_breaks, add_by, add_did, add_full, extended_leads}
use Rattle.sync_node.proofs.BatchLaws.{plain_of}
use Rattle.sync_node.proofs.told.add_settled.Goals as goal

pub extend-requires-clause-kind : goal.extend-requires-clause-kind
extend-requires-clause-kind g c =
    (plain_of c.args.store.now.state.facts c.args.batch c.requires.plain).kind

pub extend-requires-clause-plain : goal.extend-requires-clause-plain
extend-requires-clause-plain g c =
    (plain_of c.args.store.now.state.facts c.args.batch c.requires.plain).own

pub unreachable-requires : goal.unreachable-requires
unreachable-requires g c =
    let has = rw c.in-Err-Closed.field-0-is at (c.in-Err-Closed.ensures.extended c.requires.ready.still_open) in
    has.answer

pub returns-in-Ok-clause-leads : goal.returns-in-Ok-clause-leads
returns-in-Ok-clause-leads g c = extended_leads _ c.args.batch _ _ _ _ _ (c.in-Ok.ensures.extended c.requires.ready.still_open)

pub returns-in-Err-Memory-clause-leads : goal.returns-in-Err-Memory-clause-leads
returns-in-Err-Memory-clause-leads g c = extended_leads _ c.args.batch _ _ _ _ _ (c.in-Err-Memory.ensures.extended c.requires.ready.still_open)

pub returns-in-Err-DiskFault-clause-leads : goal.returns-in-Err-DiskFault-clause-leads
returns-in-Err-DiskFault-clause-leads g c = extended_leads _ c.args.batch _ _ _ _ _ (c.in-Err-DiskFault.ensures.extended c.requires.ready.still_open)

pub returns-in-Err-Full-clause-leads : goal.returns-in-Err-Full-clause-leads
returns-in-Err-Full-clause-leads g c = extended_leads _ c.args.batch _ _ _ _ _ (c.in-Err-Full.ensures.extended c.requires.ready.still_open)

pub returns-in-Err-Full-clause-undone : goal.returns-in-Err-Full-clause-undone
returns-in-Err-Full-clause-undone g c = λ is.
    let has = rw c.in-Err-Full.field-0-is at (c.in-Err-Full.ensures.extended c.requires.ready.still_open) in
    record { stays = has.answer.2; same_host = c.in-Err-Full.ensures.full (ap (λ e. Err e) c.in-Err-Full.field-0-is) }

pub returns-in-Ok-clause-went : goal.returns-in-Ok-clause-went
returns-in-Ok-clause-went g c =
    add_did _ c.args.batch _ _ _ _ _ c.requires.ready (c.in-Ok.ensures.extended c.requires.ready.still_open) c.in-Ok.ensures.ready

pub returns-in-Err-Memory-clause-stopped : goal.returns-in-Err-Memory-clause-stopped
returns-in-Err-Memory-clause-stopped g c =
    let has = rw c.in-Err-Memory.field-0-is at (c.in-Err-Memory.ensures.extended c.requires.ready.still_open) in
    add_by _ c.args.batch _ _ _ _ _ c.requires.ready has has.answer.0 c.in-Err-Memory.ensures.ready

pub returns-in-Err-DiskFault-clause-stopped : goal.returns-in-Err-DiskFault-clause-stopped
returns-in-Err-DiskFault-clause-stopped g c =
    let has = rw c.in-Err-DiskFault.field-0-is at (c.in-Err-DiskFault.ensures.extended c.requires.ready.still_open) in
    add_breaks _ c.args.batch _ _ _ _ _ c.requires.ready has has.answer.0
    (c.in-Err-DiskFault.ensures.fault (ap (λ e. Err e) c.in-Err-DiskFault.field-0-is))

pub returns-in-Err-Full-clause-stopped : goal.returns-in-Err-Full-clause-stopped
returns-in-Err-Full-clause-stopped g c =
    let has = rw c.in-Err-Full.field-0-is at (c.in-Err-Full.ensures.extended c.requires.ready.still_open) in
    add_full _ c.args.batch _ _ _ _ _ c.requires.ready has has.answer.1 has.answer.0
    (has.answer.2.closed ∙ c.requires.ready.still_open) c.in-Err-Full.ensures.ready
