use Rattle.std.proofs.Common.{◌≡◌, ℕ, ◌+◌, ◌-◌, Option, Result, Err, refl, sym, ap, subst, ◌∙◌}
use Rattle.std.proofs.Common.{arith}
use Rattle.outside.specs.Files.{Two, File, file_of}
use Rattle.outside.specs.Disk.{RelatesTold}
use Rattle.outside.specs.Steps.{PassedMoments}
use Rattle.outside.proofs.CallSteps.{run_then}
use Rattle.frame_journal.specs.Journal.{JournalValue}
use Rattle.frame_journal.specs.Create.{IsPrepared, PreparesJournal, PublishesHeader, ShutOrOpened}
use Rattle.journal_migration.specs.Faults.{fault_of_start}
use Rattle.journal_migration.specs.Migrating.{MigratesJournal, FilesHoldMigrated}
use Rattle.journal_migration.specs.Starting.{ClearsAgain}
use Rattle.journal_migration.specs.declared.fault.MigrationFault.{MigrationFault}
use Rattle.journal_migration.specs.declared.fault.MigrationFault.TheVariants as fault
use Rattle.journal_migration.proofs.Back.{back_begun, back_cut, back_unmade}
use Rattle.journal_migration.proofs.Begun.{begun_copies, begun_so}
use Rattle.journal_migration.proofs.Errors.{err_is}
use Rattle.journal_migration.proofs.Migrated.{copy_failed, looked_so, open_failed}
use Rattle.journal_migration.proofs.Migrated.{opened_so}
use Rattle.journal_migration.proofs.Own.{own_begun, own_cut, own_fault, own_left, own_looks}
use Rattle.journal_migration.proofs.Own.{own_step, own_then}
use Rattle.journal_migration.proofs.Shut.{prepared_so, works_ready}
use Rattle.journal_migration.proofs.migrating.migrate.Goals as goal

pub returns-in_err-reader-clause-migrates : goal.returns-in_err-reader-clause-migrates
returns-in_err-reader-clause-migrates g c clients j two told same holds =
    let e = fault_of_start c.in_err-reader.field-0.0 in
    looked_so clients c.args.file c.args.generation j (g.D.Disk.tells c.args.disk.now)
    (g.D.Disk.tells c.start.new.disk) two told c.requires.file holds c.start.ensures.looks e
    c.from_residual.result (err_is c.from_residual.result e c.from_residual.ensures.1)

pub returns-in_err-group-clause-migrates : goal.returns-in_err-group-clause-migrates
returns-in_err-group-clause-migrates g c clients j two told same holds =
    let result = c.from_residual-in_err-group.result in
    looked_so clients c.args.file c.args.generation j (g.D.Disk.tells c.args.disk.now)
    (g.D.Disk.tells c.start.new.disk) two told c.requires.file holds c.start.ensures.looks
    fault.Memory result (err_is result fault.Memory c.from_residual-in_err-group.ensures.1)

pub returns-in_err-writer-clause-migrates : goal.returns-in_err-writer-clause-migrates
returns-in_err-writer-clause-migrates g c clients j two told same holds =
    let o0 = g.D.Disk.tells c.args.disk.now in
    let o2 = g.D.Disk.tells c.begin.new.disk in
    let r = c.in_ok-reader.reader in
    let result = c.from_residual-in_err-writer.result in
    subst (λ (x : Result JournalValue MigrationFault).
    MigratesJournal clients c.args.file c.args.generation j o0 o2 x)
    (sym (err_is result fault.DiskFault c.from_residual-in_err-writer.ensures.1))
    (begun_so clients c.args.state.now.facts c.args.generation j c.args.file r r o0
    (g.D.Disk.tells c.start.new.disk) o2 two told c.requires.file holds c.start.ensures.looks
    c.begin.ensures.moments
    (FilesHoldMigrated clients c.args.file c.args.generation j (Err fault.DiskFault)) (λ t end. tt))

pub copy_whole-requires-clause-works : goal.copy_whole-requires-clause-works
copy_whole-requires-clause-works g c =
    works_ready c.args.file (c.args.generation + 1) c.in_ok-reader.reader c.in_ok-writer.writer
    (g.D.Disk.tells c.args.disk.now) (g.D.Disk.tells c.start.new.disk)
    (g.D.Disk.tells c.begin.new.disk)
    c.requires.file c.requires.settled c.start.ensures.looks c.begin.ensures.run
    c.in_ok-reader.ensures.start c.in_ok-writer.ensures.prepared (sym c.file.ensures.value
    ∙ c.if-file.false)
    c.in_ok-writer.ensures.value

pub returns-in_err-copy_whole-clause-migrates : goal.returns-in_err-copy_whole-clause-migrates
returns-in_err-copy_whole-clause-migrates g c clients j two told same holds =
    let f = c.args.state.now.facts in
    let generation = c.args.generation in
    let file = c.args.file in
    let r = c.in_ok-reader.reader in
    let n = c.in_ok-writer.writer in
    let o0 = g.D.Disk.tells c.args.disk.now in
    let o1 = g.D.Disk.tells c.start.new.disk in
    let o2 = g.D.Disk.tells c.begin.new.disk in
    let reader : r.file ≡ file = sym c.file.ensures.value ∙ c.if-file.false in
    let begun = begun_copies clients f generation j file r n o0 o1 o2 two told c.requires.file holds
    c.start.ensures.looks c.begin.ensures.moments same reader c.in_ok-reader.ensures.fresh.1
    c.in_ok-writer.ensures.value c.in_ok-writer.ensures.prepared in
    let e = c.in_err-copy_whole.field-0.0 in
    copy_failed clients f generation j file r n c.copy_whole.new.reader c.copy_whole.new.writer o0 o2
    (g.D.Disk.tells c.copy_whole.new.disk) two told
    (run_then o0 o1 o2 c.start.ensures.looks.run c.begin.ensures.run) reader begun e
    (λ mid at copies. c.in_err-copy_whole.ensures.copies clients generation j mid at copies)
    c.from_residual-in_err-copy_whole.result
    (err_is c.from_residual-in_err-copy_whole.result e c.from_residual-in_err-copy_whole.ensures.1)

pub publish-requires-clause-prepared : goal.publish-requires-clause-prepared
publish-requires-clause-prepared g c x told =
    subst (IsPrepared x) (sym c.file-2.ensures.value)
    (prepared_so c.copy_whole.new.reader c.copy_whole.new.writer x
    (c.in_ok-copy_whole.ensures.works x told))

pub returns-in_err-publish-clause-migrates : goal.returns-in_err-publish-clause-migrates
returns-in_err-publish-clause-migrates g c clients j two told same holds =
    let f = c.args.state.now.facts in
    let generation = c.args.generation in
    let file = c.args.file in
    let r = c.in_ok-reader.reader in
    let n = c.in_ok-writer.writer in
    let n' = c.copy_whole.new.writer in
    let o0 = g.D.Disk.tells c.args.disk.now in
    let o1 = g.D.Disk.tells c.start.new.disk in
    let o2 = g.D.Disk.tells c.begin.new.disk in
    let o3 = g.D.Disk.tells c.copy_whole.new.disk in
    let o4 = g.D.Disk.tells c.publish.new.disk in
    let reader : r.file ≡ file = sym c.file.ensures.value ∙ c.if-file.false in
    let run = run_then o0 o1 o2 c.start.ensures.looks.run c.begin.ensures.run in
    let begun = begun_copies clients f generation j file r n o0 o1 o2 two told c.requires.file holds
    c.start.ensures.looks c.begin.ensures.moments same reader c.in_ok-reader.ensures.fresh.1
    c.in_ok-writer.ensures.value c.in_ok-writer.ensures.prepared in
    let result = c.from_residual-in_err-publish.result in
    open_failed clients f generation j file r n c.copy_whole.new.reader n' o0 o2 o3 two told run
    reader begun c.cite_laws.ensures o4 (run_then o0 o2 o3 run c.copy_whole.ensures.run)
    c.in_ok-copy_whole.ensures.pair (omega (arith, c.requires.generation)) (λ mid at copies.
    c.in_ok-copy_whole.ensures.copies clients generation j mid at copies)
    (λ t at. subst (λ (k : ℕ). PassedMoments t o3 o4 k (ShutOrOpened (file_of t k).now))
    c.file-2.ensures.value (c.publish.ensures.any_moment t at)) result
    (err_is result fault.DiskFault c.from_residual-in_err-publish.ensures.1)

pub returns-clause-migrates : goal.returns-clause-migrates
returns-clause-migrates g c clients j two told same holds =
    let f = c.args.state.now.facts in
    let generation = c.args.generation in
    let file = c.args.file in
    let r = c.in_ok-reader.reader in
    let n = c.in_ok-writer.writer in
    let n' = c.copy_whole.new.writer in
    let o0 = g.D.Disk.tells c.args.disk.now in
    let o1 = g.D.Disk.tells c.start.new.disk in
    let o2 = g.D.Disk.tells c.begin.new.disk in
    let o3 = g.D.Disk.tells c.copy_whole.new.disk in
    let o4 = g.D.Disk.tells c.publish.new.disk in
    let reader : r.file ≡ file = sym c.file.ensures.value ∙ c.if-file.false in
    let run = run_then o0 o1 o2 c.start.ensures.looks.run c.begin.ensures.run in
    let begun = begun_copies clients f generation j file r n o0 o1 o2 two told c.requires.file holds
    c.start.ensures.looks c.begin.ensures.moments same reader c.in_ok-reader.ensures.fresh.1
    c.in_ok-writer.ensures.value c.in_ok-writer.ensures.prepared in
    opened_so clients f generation j file r n c.copy_whole.new.reader n' o0 o2 o3 two told run reader
    begun c.cite_laws.ensures o4 (run_then o0 o2 o3 run c.copy_whole.ensures.run)
    c.in_ok-copy_whole.ensures.pair (omega (arith, c.requires.generation)) (λ mid at copies.
    c.in_ok-copy_whole.ensures.copies clients generation j mid at copies)
    (λ t at. subst (λ (k : ℕ). PassedMoments t o3 o4 k (ShutOrOpened (file_of t k).now))
    c.file-2.ensures.value (c.publish.ensures.any_moment t at))
    (subst (λ (k : ℕ). RelatesTold (PublishesHeader k) o3.files o4.files) c.file-2.ensures.value
    c.in_ok-publish.ensures.published)
    (c.in_ok-copy_whole.ensures.same.writer_generation
    ∙ ap (λ (v : JournalValue). v.generation) c.in_ok-writer.ensures.value)

pub returns-in_err-reader-clause-own : goal.returns-in_err-reader-clause-own
returns-in_err-reader-clause-own g c =
    let o = g.D.Disk.tells c.args.disk.now in
    let o' = g.D.Disk.tells c.start.new.disk in
    let e = fault_of_start c.in_err-reader.field-0.0 in
    own_fault c.args.file o.files o'.files e c.from_residual.result
    (err_is c.from_residual.result e c.from_residual.ensures.1)
    (own_looks c.args.file o o' c.start.ensures.looks)

pub returns-then-file-clause-own : goal.returns-then-file-clause-own
returns-then-file-clause-own g c =
    own_looks c.args.file (g.D.Disk.tells c.args.disk.now) (g.D.Disk.tells c.start.new.disk)
    c.start.ensures.looks

pub returns-in_err-group-clause-own : goal.returns-in_err-group-clause-own
returns-in_err-group-clause-own g c =
    let o = g.D.Disk.tells c.args.disk.now in
    let o' = g.D.Disk.tells c.start.new.disk in
    let result = c.from_residual-in_err-group.result in
    own_fault c.args.file o.files o'.files fault.Memory result
    (err_is result fault.Memory c.from_residual-in_err-group.ensures.1)
    (own_looks c.args.file o o' c.start.ensures.looks)

pub returns-in_err-writer-clause-own : goal.returns-in_err-writer-clause-own
returns-in_err-writer-clause-own g c =
    own_cut c.args.file (g.D.Disk.tells c.args.disk.now).files
    (g.D.Disk.tells c.begin.new.disk).files c.from_residual-in_err-writer.result
    (err_is c.from_residual-in_err-writer.result fault.DiskFault
    c.from_residual-in_err-writer.ensures.1)

pub returns-in_err-copy_whole-clause-own : goal.returns-in_err-copy_whole-clause-own
returns-in_err-copy_whole-clause-own g c =
    let file = c.args.file in
    let o0 = g.D.Disk.tells c.args.disk.now in
    let o1 = g.D.Disk.tells c.start.new.disk in
    let o2 = g.D.Disk.tells c.begin.new.disk in
    let o3 = g.D.Disk.tells c.copy_whole.new.disk in
    let e = c.in_err-copy_whole.field-0.0 in
    own_fault file o0.files o3.files e c.from_residual-in_err-copy_whole.result
    (err_is c.from_residual-in_err-copy_whole.result e
    c.from_residual-in_err-copy_whole.ensures.1)
    (own_then file o0.files o2.files o3.files
    (own_begun file (c.args.generation + 1) o0 o1 o2 c.requires.file c.start.ensures.looks
    c.in_ok-writer.ensures.prepared)
    (own_left file c.in_ok-writer.writer.file o2.files o3.files c.requires.file
    (ap (λ (v : JournalValue). v.file) c.in_ok-writer.ensures.value)
    c.copy_whole.ensures.leaves))

pub returns-in_err-publish-clause-own : goal.returns-in_err-publish-clause-own
returns-in_err-publish-clause-own g c =
    own_cut c.args.file (g.D.Disk.tells c.args.disk.now).files
    (g.D.Disk.tells c.publish.new.disk).files c.from_residual-in_err-publish.result
    (err_is c.from_residual-in_err-publish.result fault.DiskFault
    c.from_residual-in_err-publish.ensures.1)

pub returns-clause-own : goal.returns-clause-own
returns-clause-own g c =
    let file = c.args.file in
    let n' = c.copy_whole.new.writer in
    let o0 = g.D.Disk.tells c.args.disk.now in
    let o1 = g.D.Disk.tells c.start.new.disk in
    let o2 = g.D.Disk.tells c.begin.new.disk in
    let o3 = g.D.Disk.tells c.copy_whole.new.disk in
    let o4 = g.D.Disk.tells c.publish.new.disk in
    let begun = ap (λ (v : JournalValue). v.file) c.in_ok-writer.ensures.value in
    let writes : n'.file ≡ 1 - file = c.in_ok-copy_whole.ensures.same.writer_file ∙ begun in
    own_then file o0.files o3.files o4.files
    (own_then file o0.files o2.files o3.files
    (own_begun file (c.args.generation + 1) o0 o1 o2 c.requires.file c.start.ensures.looks
    c.in_ok-writer.ensures.prepared)
    (own_left file c.in_ok-writer.writer.file o2.files o3.files c.requires.file begun
    c.copy_whole.ensures.leaves))
    (own_step (PublishesHeader n'.file) file n'.file o3.files o4.files c.requires.file writes
    (λ a b x. x.other)
    (subst (λ (k : ℕ). RelatesTold (PublishesHeader k) o3.files o4.files) c.file-2.ensures.value
    c.in_ok-publish.ensures.published))

pub returns-in_err-reader-clause-back : goal.returns-in_err-reader-clause-back
returns-in_err-reader-clause-back g c =
    let e = fault_of_start c.in_err-reader.field-0.0 in
    back_unmade (1 - c.args.file) e c.from_residual.result (g.D.Disk.tells c.args.disk.now).files
    (g.D.Disk.tells c.start.new.disk).files
    (err_is c.from_residual.result e c.from_residual.ensures.1) c.start.ensures.looks.same_files

pub returns-then-file-clause-back : goal.returns-then-file-clause-back
returns-then-file-clause-back g c =
    back_unmade {A = JournalValue} (1 - c.args.file) fault.Memory (Err fault.Memory)
    (g.D.Disk.tells c.args.disk.now).files
    (g.D.Disk.tells c.start.new.disk).files refl c.start.ensures.looks.same_files

pub returns-in_err-group-clause-back : goal.returns-in_err-group-clause-back
returns-in_err-group-clause-back g c =
    let result = c.from_residual-in_err-group.result in
    back_unmade (1 - c.args.file) fault.Memory result (g.D.Disk.tells c.args.disk.now).files
    (g.D.Disk.tells c.start.new.disk).files
    (err_is result fault.Memory c.from_residual-in_err-group.ensures.1)
    c.start.ensures.looks.same_files

pub returns-in_err-writer-clause-back : goal.returns-in_err-writer-clause-back
returns-in_err-writer-clause-back g c =
    back_cut (1 - c.args.file) c.from_residual-in_err-writer.result
    (g.D.Disk.tells c.args.disk.now).files (g.D.Disk.tells c.begin.new.disk).files
    (err_is c.from_residual-in_err-writer.result fault.DiskFault
    c.from_residual-in_err-writer.ensures.1)

pub returns-in_err-copy_whole-clause-back : goal.returns-in_err-copy_whole-clause-back
returns-in_err-copy_whole-clause-back g c =
    let other = 1 - c.args.file in
    let o0 = (g.D.Disk.tells c.args.disk.now).files in
    let o1 = (g.D.Disk.tells c.start.new.disk).files in
    let o2 = (g.D.Disk.tells c.begin.new.disk).files in
    let o3 = (g.D.Disk.tells c.copy_whole.new.disk).files in
    let e = c.in_err-copy_whole.field-0.0 in
    back_begun other (c.args.generation + 1) e c.from_residual-in_err-copy_whole.result o0 o2 o3
    (err_is c.from_residual-in_err-copy_whole.result e
    c.from_residual-in_err-copy_whole.ensures.1)
    (subst (λ (x : Option (Two File)). RelatesTold
    (PreparesJournal other 2 (c.args.generation + 1)) x o2) c.start.ensures.looks.same_files
    c.in_ok-writer.ensures.prepared)
    (subst (λ (k : ℕ). ClearsAgain {A = Unit {0}} k o2 o3 (Err e))
    (ap (λ (v : JournalValue). v.file) c.in_ok-writer.ensures.value)
    c.in_err-copy_whole.ensures.back)

pub returns-in_err-publish-clause-back : goal.returns-in_err-publish-clause-back
returns-in_err-publish-clause-back g c =
    back_cut (1 - c.args.file) c.from_residual-in_err-publish.result
    (g.D.Disk.tells c.args.disk.now).files (g.D.Disk.tells c.publish.new.disk).files
    (err_is c.from_residual-in_err-publish.result fault.DiskFault
    c.from_residual-in_err-publish.ensures.1)
