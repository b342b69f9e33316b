use Rattle.std.proofs.Common.{Result, sym, subst}
use Rattle.journal_migration.specs.Copying.{CopiesAll}
use Rattle.journal_migration.specs.declared.fault.MigrationFault.{MigrationFault}
use Rattle.journal_migration.proofs.Back.{copies_elsewhere}
use Rattle.journal_migration.proofs.Errors.{err_is}
use Rattle.journal_migration.proofs.copying.copy_to.Goals as goal

pub returns-in_err-copy_all-clause-copies : goal.returns-in_err-copy_all-clause-copies
returns-in_err-copy_all-clause-copies g c clients generation j two told copies =
    let result = c.from_residual.result in
    subst (λ (x : Result (Unit {0}) MigrationFault).
    CopiesAll clients generation j c.args.reader.now.file c.copy_all.new.reader
    c.copy_all.new.writer (g.D.Disk.tells c.args.disk.now)
    (g.D.Disk.tells c.copy_all.new.disk) x)
    (sym (err_is result c.in_err-copy_all.field-0.0 c.from_residual.ensures.1))
    (c.in_err-copy_all.ensures.copies clients generation j two told copies)

pub returns-then-end-clause-copies : goal.returns-then-end-clause-copies
returns-then-end-clause-copies g c clients generation j two told copies =
    copies_elsewhere clients generation j c.args.reader.now.file c.copy_all.new.reader
    c.copy_all.new.writer (g.D.Disk.tells c.args.disk.now)
    (g.D.Disk.tells c.copy_all.new.disk) c.in_ok-copy_all.ensures.same.reader_file
    (c.in_ok-copy_all.ensures.copies clients generation j two told copies)
