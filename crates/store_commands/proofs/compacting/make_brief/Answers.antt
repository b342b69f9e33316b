use Rattle.std.proofs.Common.{refl, ap, ◌∙◌, subst, sym}
use Rattle.sync_rules.specs.Steps.{IsSettled}
use Rattle.sync_store.specs.Store.{StoreValue, format_meant, written_in}
use Rattle.store_commands.proofs.compacting.make_brief.Goals as goal

pub returns-in-Ok-clause-compacted : goal.returns-in-Ok-clause-compacted
returns-in-Ok-clause-compacted g c =
    let has = c.in-Ok.ensures.compacted c.requires.ready.still_open in
    record { leads = has.leads; answer = has.answer; own = has.own }

pub returns-in-Err-Full-clause-compacted : goal.returns-in-Err-Full-clause-compacted
returns-in-Err-Full-clause-compacted g c =
    let has = rw c.in-Err-Full.field-0-is at c.in-Err-Full.ensures.compacted
    c.requires.ready.still_open in
    record { leads = has.leads; answer = has.answer; own = has.own }

pub returns-in-Err-Memory-clause-compacted : goal.returns-in-Err-Memory-clause-compacted
returns-in-Err-Memory-clause-compacted g c =
    let has = rw c.in-Err-Memory.field-0-is at c.in-Err-Memory.ensures.compacted
    c.requires.ready.still_open in
    record { leads = has.leads; answer = tt; own = has.own }

pub returns-in-Err-DiskFault-clause-compacted : goal.returns-in-Err-DiskFault-clause-compacted
returns-in-Err-DiskFault-clause-compacted g c =
    let has = rw c.in-Err-DiskFault.field-0-is at c.in-Err-DiskFault.ensures.compacted
    c.requires.ready.still_open in
    record { leads = has.leads; answer = tt; own = tt }

pub returns-in-Err-DiskFault-clause-by : goal.returns-in-Err-DiskFault-clause-by
returns-in-Err-DiskFault-clause-by g c =
    (rw c.in-Err-DiskFault.field-0-is at c.in-Err-DiskFault.ensures.fault) refl

pub returns-in-Ok-clause-stays : goal.returns-in-Ok-clause-stays
returns-in-Ok-clause-stays g c =
    let has = c.in-Ok.ensures.compacted c.requires.ready.still_open in
    c.in-Ok.ensures.ready has.answer.closed

pub returns-in-Ok-clause-settled : goal.returns-in-Ok-clause-settled
returns-in-Ok-clause-settled g c =
    (c.in-Ok.ensures.compacted c.requires.ready.still_open).answer.settled

pub returns-in-Ok-clause-limit : goal.returns-in-Ok-clause-limit
returns-in-Ok-clause-limit g c =
    let has = c.in-Ok.ensures.compacted c.requires.ready.still_open in
    has.answer.limit

pub returns-in-Ok-clause-short : goal.returns-in-Ok-clause-short
returns-in-Ok-clause-short g c =
    let has = c.in-Ok.ensures.compacted c.requires.ready.still_open in
    ap format_meant has.answer.format

pub returns-in-Err-Full-clause-stays : goal.returns-in-Err-Full-clause-stays
returns-in-Err-Full-clause-stays g c =
    let has = rw c.in-Err-Full.field-0-is at c.in-Err-Full.ensures.compacted
    c.requires.ready.still_open in
    c.in-Err-Full.ensures.ready (ap (λ (v : StoreValue). v.closed) has.answer.1 ∙ c.requires.ready.still_open)

pub returns-in-Err-Full-clause-settled : goal.returns-in-Err-Full-clause-settled
returns-in-Err-Full-clause-settled g c =
    let has = rw c.in-Err-Full.field-0-is at c.in-Err-Full.ensures.compacted
    c.requires.ready.still_open in
    subst (λ (v : StoreValue). IsSettled (g.C.Clients.meaning c.args.clients.now) v.state.facts)
    (sym has.answer.1) c.requires.settled

pub returns-in-Err-Full-clause-limit : goal.returns-in-Err-Full-clause-limit
returns-in-Err-Full-clause-limit g c =
    let has = rw c.in-Err-Full.field-0-is at c.in-Err-Full.ensures.compacted
    c.requires.ready.still_open in
    ap (λ (v : StoreValue). v.limit) has.answer.1

pub returns-in-Err-Full-clause-short : goal.returns-in-Err-Full-clause-short
returns-in-Err-Full-clause-short g c =
    let has = rw c.in-Err-Full.field-0-is at c.in-Err-Full.ensures.compacted
    c.requires.ready.still_open in
    ap written_in has.answer.1 ∙ c.requires.short

pub returns-in-Err-Memory-clause-stays : goal.returns-in-Err-Memory-clause-stays
returns-in-Err-Memory-clause-stays g c =
    let has = rw c.in-Err-Memory.field-0-is at c.in-Err-Memory.ensures.compacted
    c.requires.ready.still_open in
    c.in-Err-Memory.ensures.ready (ap (λ (v : StoreValue). v.closed) has.answer.1 ∙ c.requires.ready.still_open)

pub returns-in-Err-Memory-clause-limit : goal.returns-in-Err-Memory-clause-limit
returns-in-Err-Memory-clause-limit g c =
    let has = rw c.in-Err-Memory.field-0-is at c.in-Err-Memory.ensures.compacted
    c.requires.ready.still_open in
    ap (λ (v : StoreValue). v.limit) has.answer.1

pub returns-in-Err-Memory-clause-short : goal.returns-in-Err-Memory-clause-short
returns-in-Err-Memory-clause-short g c =
    let has = rw c.in-Err-Memory.field-0-is at c.in-Err-Memory.ensures.compacted
    c.requires.ready.still_open in
    ap written_in has.answer.1 ∙ c.requires.short

pub returns-in-Err-DiskFault-clause-limit : goal.returns-in-Err-DiskFault-clause-limit
returns-in-Err-DiskFault-clause-limit g c =
    let has = rw c.in-Err-DiskFault.field-0-is at c.in-Err-DiskFault.ensures.compacted
    c.requires.ready.still_open in
    ap (λ (v : StoreValue). v.limit) has.answer.1

pub returns-in-Err-DiskFault-clause-short : goal.returns-in-Err-DiskFault-clause-short
returns-in-Err-DiskFault-clause-short g c =
    let has = rw c.in-Err-DiskFault.field-0-is at c.in-Err-DiskFault.ensures.compacted
    c.requires.ready.still_open in
    ap written_in has.answer.1 ∙ c.requires.short
