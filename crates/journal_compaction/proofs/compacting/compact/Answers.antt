use Rattle.std.proofs.Common.{ℕ, ◌+◌, ◌-◌, ◌^◌, ◌<◌, ◌≤◌, Err, ap, subst, ◌∙◌, arith}
use Rattle.outside.specs.Disk.{RelatesTold}
use Rattle.outside.specs.Files.{file_of}
use Rattle.outside.specs.Steps.{PassedMoments}
use Rattle.frame_journal.specs.Create.{LeavesClosed, PreparesJournal, PublishesHeader}
use Rattle.frame_journal.specs.Create.{ShutOrOpened}
use Rattle.frame_journal.specs.Journal.{JournalValue}
use Rattle.journal_state.specs.Telling.{told_entries}
use Rattle.journal_migration.specs.declared.fault.MigrationFault.TheVariants as migration
use Rattle.journal_migration.specs.Starting.{ClearsAgain, EndsOrStays}
use Rattle.journal_migration.proofs.Errors.{err_is}
use Rattle.journal_migration.proofs.Own.{own_none}
use Rattle.journal_compaction.specs.declared.fault.CompactionFault.TheVariants as fault
use Rattle.journal_compaction.specs.Compacting.{compacted_len}
use Rattle.journal_compaction.specs.Faults.{fault_of}
use Rattle.journal_compaction.specs.Planning.{IsPlan}
use Rattle.journal_compaction.proofs.Holding.{begun_failed, full_unmade, memory_unmade}
use Rattle.journal_compaction.proofs.Limits.{fault_weighs, frames_fit, too_long, within_limit}
use Rattle.journal_compaction.proofs.Own.{nothing_back, nothing_failed, nothing_unmade, own_back}
use Rattle.journal_compaction.proofs.Own.{own_failed, own_published, own_unmade}
use Rattle.journal_compaction.proofs.Publishing.{Begun, begun_so, compacted_so, open_failed}
use Rattle.journal_compaction.proofs.Publishing.{opened_so, works_begun}
use Rattle.journal_compaction.proofs.Publishing.{write_failed}
use Rattle.journal_compaction.proofs.compacting.compact.Goals as goal

pub returns-in_err-told-clause-compacts : goal.returns-in_err-told-clause-compacts
returns-in_err-told-clause-compacts g c j two told same holds =
    let clients = g.C.Clients.meaning c.args.clients.now in
    let m = c.args.journal.now in
    let f = c.args.state.now.facts in
    let o0 = g.D.Disk.tells c.args.disk.now in
    let few : m.file < 2 =
    subst (λ (k : ℕ). k < 2) c.file-file.ensures.value c.file-file.ensures.within in
    memory_unmade clients m j two few holds o0 c.from_residual.result told
    (err_is c.from_residual.result fault.Memory c.from_residual.ensures.1)

pub returns-in_err-plan-clause-compacts : goal.returns-in_err-plan-clause-compacts
returns-in_err-plan-clause-compacts g c j two told same holds =
    let clients = g.C.Clients.meaning c.args.clients.now in
    let m = c.args.journal.now in
    let f = c.args.state.now.facts in
    let o0 = g.D.Disk.tells c.args.disk.now in
    let few : m.file < 2 =
    subst (λ (k : ℕ). k < 2) c.file-file.ensures.value c.file-file.ensures.within in
    memory_unmade clients m j two few holds o0 c.from_residual-in_err-plan.result told
    (err_is c.from_residual-in_err-plan.result fault.Memory c.from_residual-in_err-plan.ensures.1)

pub returns-then-len-limit-clause-room : goal.returns-then-len-limit-clause-room
returns-then-len-limit-clause-room g c =
    let clients = g.C.Clients.meaning c.args.clients.now in
    let m = c.args.journal.now in
    let f = c.args.state.now.facts in
    let o0 = g.D.Disk.tells c.args.disk.now in
    let p = c.in_ok-plan.plan in
    let plan : IsPlan clients f p =
    c.in_ok-plan.ensures clients (ap (told_entries f.held) c.as_slice.ensures.value
    ∙ c.in_ok-told.ensures.told) in
    too_long clients f p c.args.limit c.len.result c.requires.limit plan c.len.ensures
    c.if-len-limit.true

pub returns-then-len-limit-clause-compacts : goal.returns-then-len-limit-clause-compacts
returns-then-len-limit-clause-compacts g c j two told same holds =
    let clients = g.C.Clients.meaning c.args.clients.now in
    let m = c.args.journal.now in
    let f = c.args.state.now.facts in
    let o0 = g.D.Disk.tells c.args.disk.now in
    let few : m.file < 2 =
    subst (λ (k : ℕ). k < 2) c.file-file.ensures.value c.file-file.ensures.within in
    full_unmade clients m j two few holds o0 told

pub returns-in_err-page-clause-compacts : goal.returns-in_err-page-clause-compacts
returns-in_err-page-clause-compacts g c j two told same holds =
    let clients = g.C.Clients.meaning c.args.clients.now in
    let m = c.args.journal.now in
    let f = c.args.state.now.facts in
    let o0 = g.D.Disk.tells c.args.disk.now in
    let few : m.file < 2 =
    subst (λ (k : ℕ). k < 2) c.file-file.ensures.value c.file-file.ensures.within in
    memory_unmade clients m j two few holds o0 c.from_residual-in_err-page.result told
    (err_is c.from_residual-in_err-page.result fault.Memory c.from_residual-in_err-page.ensures.1)

pub returns-in_err-writer-clause-room : goal.returns-in_err-writer-clause-room
returns-in_err-writer-clause-room g c =
    let clients = g.C.Clients.meaning c.args.clients.now in
    let m = c.args.journal.now in
    let f = c.args.state.now.facts in
    let o0 = g.D.Disk.tells c.args.disk.now in
    let p = c.in_ok-plan.plan in
    let plan : IsPlan clients f p =
    c.in_ok-plan.ensures clients (ap (told_entries f.held) c.as_slice.ensures.value
    ∙ c.in_ok-told.ensures.told) in
    let within : compacted_len clients f ≤ c.args.limit =
    within_limit clients f p c.args.limit c.len.result c.requires.limit plan c.len.ensures
    c.if-len-limit.false in
    fault_weighs clients f c.args.limit migration.DiskFault c.from_residual-in_err-writer.result
    within
    (err_is c.from_residual-in_err-writer.result fault.DiskFault
    c.from_residual-in_err-writer.ensures.1)

pub returns-in_err-writer-clause-compacts : goal.returns-in_err-writer-clause-compacts
returns-in_err-writer-clause-compacts g c j two told same holds =
    let clients = g.C.Clients.meaning c.args.clients.now in
    let m = c.args.journal.now in
    let f = c.args.state.now.facts in
    let o0 = g.D.Disk.tells c.args.disk.now in
    let few : m.file < 2 =
    subst (λ (k : ℕ). k < 2) c.file-file.ensures.value c.file-file.ensures.within in
    let o1 = g.D.Disk.tells c.begin.new.disk in
    begun_failed clients m j two few holds o0 o1 c.from_residual-in_err-writer.result told
    (subst (λ (k : ℕ). EndsOrStays (1 - k) o0 o1) c.file-file.ensures.value c.begin.ensures.moments)
    (err_is c.from_residual-in_err-writer.result fault.DiskFault
    c.from_residual-in_err-writer.ensures.1)

pub write_account-requires-clause-room : goal.write_account-requires-clause-room
write_account-requires-clause-room g c =
    let clients = g.C.Clients.meaning c.args.clients.now in
    let m = c.args.journal.now in
    let f = c.args.state.now.facts in
    let o0 = g.D.Disk.tells c.args.disk.now in
    let p = c.in_ok-plan.plan in
    let plan : IsPlan clients f p =
    c.in_ok-plan.ensures clients (ap (told_entries f.held) c.as_slice.ensures.value
    ∙ c.in_ok-told.ensures.told) in
    frames_fit clients f p c.args.limit c.len.result c.requires.limit plan c.len.ensures
    c.in_ok-writer.writer.end
    (ap (λ (v : JournalValue). v.end) c.in_ok-writer.ensures.value) c.if-len-limit.false

pub write_account-requires-clause-works : goal.write_account-requires-clause-works
write_account-requires-clause-works g c =
    let clients = g.C.Clients.meaning c.args.clients.now in
    let m = c.args.journal.now in
    let f = c.args.state.now.facts in
    let o0 = g.D.Disk.tells c.args.disk.now in
    let n0 = c.in_ok-writer.writer in
    let o1 = g.D.Disk.tells c.begin.new.disk in
    let begun : Begun m n0 o0 o1 =
    begun_so m n0 c.file-file.result c.generation-generation.result o0 o1 c.file-file.ensures.value
    c.generation-generation.ensures c.in_ok-writer.ensures.value c.in_ok-writer.ensures.prepared
    c.begin.ensures.moments c.begin.ensures.run in
    works_begun m n0 o0 o1 begun

pub returns-in_err-write_account-clause-room : goal.returns-in_err-write_account-clause-room
returns-in_err-write_account-clause-room g c =
    let clients = g.C.Clients.meaning c.args.clients.now in
    let m = c.args.journal.now in
    let f = c.args.state.now.facts in
    let o0 = g.D.Disk.tells c.args.disk.now in
    let p = c.in_ok-plan.plan in
    let plan : IsPlan clients f p =
    c.in_ok-plan.ensures clients (ap (told_entries f.held) c.as_slice.ensures.value
    ∙ c.in_ok-told.ensures.told) in
    let within : compacted_len clients f ≤ c.args.limit =
    within_limit clients f p c.args.limit c.len.result c.requires.limit plan c.len.ensures
    c.if-len-limit.false in
    let e = c.in_err-write_account.field-0.0 in
    fault_weighs clients f c.args.limit e c.from_residual-in_err-write_account.result within
    (err_is c.from_residual-in_err-write_account.result (fault_of e)
    c.from_residual-in_err-write_account.ensures.1)

pub returns-in_err-write_account-clause-compacts : goal.returns-in_err-write_account-clause-compacts
returns-in_err-write_account-clause-compacts g c j two told same holds =
    let clients = g.C.Clients.meaning c.args.clients.now in
    let m = c.args.journal.now in
    let f = c.args.state.now.facts in
    let o0 = g.D.Disk.tells c.args.disk.now in
    let few : m.file < 2 =
    subst (λ (k : ℕ). k < 2) c.file-file.ensures.value c.file-file.ensures.within in
    let n0 = c.in_ok-writer.writer in
    let o1 = g.D.Disk.tells c.begin.new.disk in
    let begun : Begun m n0 o0 o1 =
    begun_so m n0 c.file-file.result c.generation-generation.result o0 o1 c.file-file.ensures.value
    c.generation-generation.ensures c.in_ok-writer.ensures.value c.in_ok-writer.ensures.prepared
    c.begin.ensures.moments c.begin.ensures.run in
    let e = c.in_err-write_account.field-0.0 in
    let o2 = g.D.Disk.tells c.write_account.new.disk in
    write_failed clients m n0 j two o0 o1 o2 e c.from_residual-in_err-write_account.result few holds
    told begun
    c.in_err-write_account.ensures.shut c.in_err-write_account.ensures.back
    (err_is c.from_residual-in_err-write_account.result (fault_of e)
    c.from_residual-in_err-write_account.ensures.1)

pub returns-in_err-publish-clause-room : goal.returns-in_err-publish-clause-room
returns-in_err-publish-clause-room g c =
    let clients = g.C.Clients.meaning c.args.clients.now in
    let m = c.args.journal.now in
    let f = c.args.state.now.facts in
    let o0 = g.D.Disk.tells c.args.disk.now in
    let p = c.in_ok-plan.plan in
    let plan : IsPlan clients f p =
    c.in_ok-plan.ensures clients (ap (told_entries f.held) c.as_slice.ensures.value
    ∙ c.in_ok-told.ensures.told) in
    let within : compacted_len clients f ≤ c.args.limit =
    within_limit clients f p c.args.limit c.len.result c.requires.limit plan c.len.ensures
    c.if-len-limit.false in
    fault_weighs clients f c.args.limit migration.DiskFault c.from_residual-in_err-publish.result
    within
    (err_is c.from_residual-in_err-publish.result fault.DiskFault
    c.from_residual-in_err-publish.ensures.1)

pub returns-in_err-publish-clause-compacts : goal.returns-in_err-publish-clause-compacts
returns-in_err-publish-clause-compacts g c j two told same holds =
    let clients = g.C.Clients.meaning c.args.clients.now in
    let m = c.args.journal.now in
    let f = c.args.state.now.facts in
    let o0 = g.D.Disk.tells c.args.disk.now in
    let few : m.file < 2 =
    subst (λ (k : ℕ). k < 2) c.file-file.ensures.value c.file-file.ensures.within in
    let p = c.in_ok-plan.plan in
    let plan : IsPlan clients f p =
    c.in_ok-plan.ensures clients (ap (told_entries f.held) c.as_slice.ensures.value
    ∙ c.in_ok-told.ensures.told) in
    let within : compacted_len clients f ≤ c.args.limit =
    within_limit clients f p c.args.limit c.len.result c.requires.limit plan c.len.ensures
    c.if-len-limit.false in
    let room : compacted_len clients f ≤ 268435456 = omega (arith, within, c.requires.limit) in
    let n0 = c.in_ok-writer.writer in
    let o1 = g.D.Disk.tells c.begin.new.disk in
    let begun : Begun m n0 o0 o1 =
    begun_so m n0 c.file-file.result c.generation-generation.result o0 o1 c.file-file.ensures.value
    c.generation-generation.ensures c.in_ok-writer.ensures.value c.in_ok-writer.ensures.prepared
    c.begin.ensures.moments c.begin.ensures.run in
    let n = c.write_account.new.writer in
    let o2 = g.D.Disk.tells c.write_account.new.disk in
    let o3 = g.D.Disk.tells c.publish.new.disk in
    let many : m.generation + 1 < 2 ^ 64 = omega (arith, c.requires.generation) in
    open_failed c.cite_laws.ensures clients f p m n0 n j two o0 o1 o2 o3 told few many holds same
    c.requires.still
    plan c.in_ok-write_account.ensures.within room begun
    c.in_ok-write_account.ensures.adding c.in_ok-write_account.ensures.works
    c.in_ok-write_account.ensures.shut
    c.write_account.ensures.run
    (λ t at. subst (λ (k : ℕ). PassedMoments t o2 o3 k (ShutOrOpened (file_of t k).now))
    c.file.ensures.value
    (c.publish.ensures.any_moment t at)) c.from_residual-in_err-publish.result
    (err_is c.from_residual-in_err-publish.result fault.DiskFault
    c.from_residual-in_err-publish.ensures.1)

pub returns-clause-next : goal.returns-clause-next
returns-clause-next g c =
    let clients = g.C.Clients.meaning c.args.clients.now in
    let m = c.args.journal.now in
    let f = c.args.state.now.facts in
    let o0 = g.D.Disk.tells c.args.disk.now in
    let p = c.in_ok-plan.plan in
    let plan : IsPlan clients f p =
    c.in_ok-plan.ensures clients (ap (told_entries f.held) c.as_slice.ensures.value
    ∙ c.in_ok-told.ensures.told) in
    let n0 = c.in_ok-writer.writer in
    let o1 = g.D.Disk.tells c.begin.new.disk in
    let begun : Begun m n0 o0 o1 =
    begun_so m n0 c.file-file.result c.generation-generation.result o0 o1 c.file-file.ensures.value
    c.generation-generation.ensures c.in_ok-writer.ensures.value c.in_ok-writer.ensures.prepared
    c.begin.ensures.moments c.begin.ensures.run in
    compacted_so clients f p m n0 c.write_account.new.writer o0 o1 o1.files
    (g.D.Disk.tells c.write_account.new.disk).files
    plan begun c.in_ok-write_account.ensures.adding

pub returns-clause-room : goal.returns-clause-room
returns-clause-room g c =
    let clients = g.C.Clients.meaning c.args.clients.now in
    let m = c.args.journal.now in
    let f = c.args.state.now.facts in
    let o0 = g.D.Disk.tells c.args.disk.now in
    let p = c.in_ok-plan.plan in
    let plan : IsPlan clients f p =
    c.in_ok-plan.ensures clients (ap (told_entries f.held) c.as_slice.ensures.value
    ∙ c.in_ok-told.ensures.told) in
    within_limit clients f p c.args.limit c.len.result c.requires.limit plan c.len.ensures
    c.if-len-limit.false

pub returns-clause-compacts : goal.returns-clause-compacts
returns-clause-compacts g c j two told same holds =
    let clients = g.C.Clients.meaning c.args.clients.now in
    let m = c.args.journal.now in
    let f = c.args.state.now.facts in
    let o0 = g.D.Disk.tells c.args.disk.now in
    let few : m.file < 2 =
    subst (λ (k : ℕ). k < 2) c.file-file.ensures.value c.file-file.ensures.within in
    let p = c.in_ok-plan.plan in
    let plan : IsPlan clients f p =
    c.in_ok-plan.ensures clients (ap (told_entries f.held) c.as_slice.ensures.value
    ∙ c.in_ok-told.ensures.told) in
    let within : compacted_len clients f ≤ c.args.limit =
    within_limit clients f p c.args.limit c.len.result c.requires.limit plan c.len.ensures
    c.if-len-limit.false in
    let room : compacted_len clients f ≤ 268435456 = omega (arith, within, c.requires.limit) in
    let n0 = c.in_ok-writer.writer in
    let o1 = g.D.Disk.tells c.begin.new.disk in
    let begun : Begun m n0 o0 o1 =
    begun_so m n0 c.file-file.result c.generation-generation.result o0 o1 c.file-file.ensures.value
    c.generation-generation.ensures c.in_ok-writer.ensures.value c.in_ok-writer.ensures.prepared
    c.begin.ensures.moments c.begin.ensures.run in
    let n = c.write_account.new.writer in
    let o2 = g.D.Disk.tells c.write_account.new.disk in
    let o3 = g.D.Disk.tells c.publish.new.disk in
    let many : m.generation + 1 < 2 ^ 64 = omega (arith, c.requires.generation) in
    opened_so c.cite_laws.ensures clients f p m n0 n j two o0 o1 o2 o3 told few many holds same
    c.requires.still plan
    c.in_ok-write_account.ensures.within room begun
    c.in_ok-write_account.ensures.adding c.in_ok-write_account.ensures.works
    c.in_ok-write_account.ensures.shut
    c.write_account.ensures.run
    (λ t at. subst (λ (k : ℕ). PassedMoments t o2 o3 k (ShutOrOpened (file_of t k).now))
    c.file.ensures.value
    (c.publish.ensures.any_moment t at))
    (subst (λ (k : ℕ). RelatesTold (PublishesHeader k) o2.files o3.files) c.file.ensures.value
    c.in_ok-publish.ensures.published)

pub returns-in_err-told-clause-own : goal.returns-in_err-told-clause-own
returns-in_err-told-clause-own g c =
    own_unmade c.args.journal.now.file (g.D.Disk.tells c.args.disk.now).files
    c.from_residual.result (err_is c.from_residual.result fault.Memory c.from_residual.ensures.1)

pub returns-in_err-plan-clause-own : goal.returns-in_err-plan-clause-own
returns-in_err-plan-clause-own g c =
    own_unmade c.args.journal.now.file (g.D.Disk.tells c.args.disk.now).files
    c.from_residual-in_err-plan.result
    (err_is c.from_residual-in_err-plan.result fault.Memory c.from_residual-in_err-plan.ensures.1)

pub returns-then-len-limit-clause-own : goal.returns-then-len-limit-clause-own
returns-then-len-limit-clause-own g c =
    own_none c.args.journal.now.file (g.D.Disk.tells c.args.disk.now).files

pub returns-in_err-page-clause-own : goal.returns-in_err-page-clause-own
returns-in_err-page-clause-own g c =
    own_unmade c.args.journal.now.file (g.D.Disk.tells c.args.disk.now).files
    c.from_residual-in_err-page.result
    (err_is c.from_residual-in_err-page.result fault.Memory c.from_residual-in_err-page.ensures.1)

pub returns-in_err-writer-clause-own : goal.returns-in_err-writer-clause-own
returns-in_err-writer-clause-own g c =
    own_failed c.args.journal.now.file (g.D.Disk.tells c.args.disk.now).files
    (g.D.Disk.tells c.begin.new.disk).files c.from_residual-in_err-writer.result
    (err_is c.from_residual-in_err-writer.result fault.DiskFault
    c.from_residual-in_err-writer.ensures.1)

pub returns-in_err-write_account-clause-own : goal.returns-in_err-write_account-clause-own
returns-in_err-write_account-clause-own g c =
    let m = c.args.journal.now in
    let few : m.file < 2 =
    subst (λ (k : ℕ). k < 2) c.file-file.ensures.value c.file-file.ensures.within in
    let e = c.in_err-write_account.field-0.0 in
    let other = ap (λ (k : ℕ). 1 - k) c.file-file.ensures.value in
    let o1 = (g.D.Disk.tells c.begin.new.disk).files in
    let o2 = (g.D.Disk.tells c.write_account.new.disk).files in
    own_back m.file (1 - c.file-file.result) (c.generation-generation.result + 1) e
    (g.D.Disk.tells c.args.disk.now).files o1 o2 c.from_residual-in_err-write_account.result few
    other c.in_ok-writer.ensures.prepared
    (subst (λ (k : ℕ). RelatesTold (LeavesClosed k) o1 o2)
    (ap (λ (v : JournalValue). v.file) c.in_ok-writer.ensures.value)
    c.write_account.ensures.leaves)
    (err_is c.from_residual-in_err-write_account.result (fault_of e)
    c.from_residual-in_err-write_account.ensures.1)

pub returns-in_err-publish-clause-own : goal.returns-in_err-publish-clause-own
returns-in_err-publish-clause-own g c =
    own_failed c.args.journal.now.file (g.D.Disk.tells c.args.disk.now).files
    (g.D.Disk.tells c.publish.new.disk).files c.from_residual-in_err-publish.result
    (err_is c.from_residual-in_err-publish.result fault.DiskFault
    c.from_residual-in_err-publish.ensures.1)

pub returns-clause-own : goal.returns-clause-own
returns-clause-own g c =
    let m = c.args.journal.now in
    let few : m.file < 2 =
    subst (λ (k : ℕ). k < 2) c.file-file.ensures.value c.file-file.ensures.within in
    let other = ap (λ (k : ℕ). 1 - k) c.file-file.ensures.value in
    let begun = ap (λ (v : JournalValue). v.file) c.in_ok-writer.ensures.value in
    let o1 = (g.D.Disk.tells c.begin.new.disk).files in
    let o2 = (g.D.Disk.tells c.write_account.new.disk).files in
    own_published m.file (1 - c.file-file.result) c.file.result
    (c.generation-generation.result + 1) c.write_account.new.writer
    (g.D.Disk.tells c.args.disk.now).files o1 o2 (g.D.Disk.tells c.publish.new.disk).files few
    other
    (c.file.ensures.value ∙ c.in_ok-write_account.ensures.adding.grows.file_is ∙ begun)
    c.in_ok-writer.ensures.prepared
    (subst (λ (k : ℕ). RelatesTold (LeavesClosed k) o1 o2) begun c.write_account.ensures.leaves)
    c.in_ok-publish.ensures.published

pub returns-in_err-told-clause-back : goal.returns-in_err-told-clause-back
returns-in_err-told-clause-back g c =
    nothing_unmade (1 - c.args.journal.now.file) (g.D.Disk.tells c.args.disk.now).files
    c.from_residual.result (err_is c.from_residual.result fault.Memory c.from_residual.ensures.1)

pub returns-in_err-plan-clause-back : goal.returns-in_err-plan-clause-back
returns-in_err-plan-clause-back g c =
    nothing_unmade (1 - c.args.journal.now.file) (g.D.Disk.tells c.args.disk.now).files
    c.from_residual-in_err-plan.result
    (err_is c.from_residual-in_err-plan.result fault.Memory c.from_residual-in_err-plan.ensures.1)

pub returns-in_err-page-clause-back : goal.returns-in_err-page-clause-back
returns-in_err-page-clause-back g c =
    nothing_unmade (1 - c.args.journal.now.file) (g.D.Disk.tells c.args.disk.now).files
    c.from_residual-in_err-page.result
    (err_is c.from_residual-in_err-page.result fault.Memory c.from_residual-in_err-page.ensures.1)

pub returns-in_err-writer-clause-back : goal.returns-in_err-writer-clause-back
returns-in_err-writer-clause-back g c =
    nothing_failed (1 - c.args.journal.now.file) (g.D.Disk.tells c.args.disk.now).files
    (g.D.Disk.tells c.begin.new.disk).files c.from_residual-in_err-writer.result
    (err_is c.from_residual-in_err-writer.result fault.DiskFault
    c.from_residual-in_err-writer.ensures.1)

pub returns-in_err-write_account-clause-back : goal.returns-in_err-write_account-clause-back
returns-in_err-write_account-clause-back g c =
    let m = c.args.journal.now in
    let e = c.in_err-write_account.field-0.0 in
    let other = ap (λ (k : ℕ). 1 - k) c.file-file.ensures.value in
    let begun = ap (λ (v : JournalValue). v.file) c.in_ok-writer.ensures.value in
    let o0 = (g.D.Disk.tells c.args.disk.now).files in
    let o1 = (g.D.Disk.tells c.begin.new.disk).files in
    let o2 = (g.D.Disk.tells c.write_account.new.disk).files in
    nothing_back (1 - m.file) (c.generation-generation.result + 1) e
    o0 o1 o2 c.from_residual-in_err-write_account.result
    (subst (λ (k : ℕ). RelatesTold (PreparesJournal k 2 (c.generation-generation.result + 1)) o0 o1)
    other c.in_ok-writer.ensures.prepared)
    (subst (λ (k : ℕ). ClearsAgain {A = Unit {0}} k o1 o2 (Err e)) (begun ∙ other)
    c.in_err-write_account.ensures.back)
    (err_is c.from_residual-in_err-write_account.result (fault_of e)
    c.from_residual-in_err-write_account.ensures.1)

pub returns-in_err-publish-clause-back : goal.returns-in_err-publish-clause-back
returns-in_err-publish-clause-back g c =
    nothing_failed (1 - c.args.journal.now.file) (g.D.Disk.tells c.args.disk.now).files
    (g.D.Disk.tells c.publish.new.disk).files c.from_residual-in_err-publish.result
    (err_is c.from_residual-in_err-publish.result fault.DiskFault
    c.from_residual-in_err-publish.ensures.1)
