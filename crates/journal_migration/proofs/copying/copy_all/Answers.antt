use Rattle.journal_migration.specs.declared.fault.MigrationFault.TheVariants as fault
use Rattle.journal_migration.proofs.All.{flush_done, flush_failed, gather_failed}
use Rattle.journal_migration.proofs.Back.{leaves_on}
use Rattle.journal_migration.proofs.Copied.{copies_owes}
use Rattle.journal_migration.proofs.Errors.{err_is}
use Rattle.journal_migration.proofs.Gathers.{gathering_none, pair_flushed, same_flushed, works_flushed}
use Rattle.journal_migration.proofs.copying.copy_all.Goals as goal

pub gather_all-requires-clause-waits : goal.gather_all-requires-clause-waits
gather_all-requires-clause-waits g c =
    gathering_none c.args.reader.now c.args.writer.now c.args.group.now c.requires.empty
    c.requires.pair

pub returns-in_err-gather_all-clause-copies : goal.returns-in_err-gather_all-clause-copies
returns-in_err-gather_all-clause-copies g c clients generation j two told copies =
    let e = c.in_err-gather_all.field-0.0 in
    gather_failed clients generation j c.args.reader.now.file c.gather_all.new.reader
    c.gather_all.new.writer c.gather_all.new.group (g.D.Disk.tells c.args.disk.now)
    (g.D.Disk.tells c.gather_all.new.disk) e
    (c.in_err-gather_all.ensures.copies clients generation j two told
    (copies_owes clients c.args.state.now.facts generation j c.args.reader.now c.args.writer.now
    c.args.group.now 0 two c.requires.empty copies))
    c.from_residual.result
    (err_is c.from_residual.result e c.from_residual.ensures.1)

pub returns-in_err-flush-clause-copies : goal.returns-in_err-flush-clause-copies
returns-in_err-flush-clause-copies g c clients generation j two told copies =
    flush_failed clients generation j c.args.reader.now.file c.gather_all.new.reader
    c.gather_all.new.writer c.flush.new.self c.gather_all.new.group c.flush.new.group
    (g.D.Disk.tells c.args.disk.now) (g.D.Disk.tells c.gather_all.new.disk)
    (g.D.Disk.tells c.flush.new.disk) two told c.gather_all.ensures.run
    c.in_ok-gather_all.ensures.pair
    (c.in_ok-gather_all.ensures.copies clients generation j two told
    (copies_owes clients c.args.state.now.facts generation j c.args.reader.now c.args.writer.now
    c.args.group.now 0 two c.requires.empty copies))
    c.flush.ensures.any_moment c.from_residual-in_err-flush.result
    (err_is c.from_residual-in_err-flush.result fault.DiskFault
    c.from_residual-in_err-flush.ensures.1)

pub returns-clause-copies : goal.returns-clause-copies
returns-clause-copies g c clients generation j two told copies =
    flush_done clients generation j c.args.reader.now.file c.gather_all.new.reader
    c.gather_all.new.writer c.flush.new.self c.gather_all.new.group c.flush.new.group
    (g.D.Disk.tells c.args.disk.now) (g.D.Disk.tells c.gather_all.new.disk)
    (g.D.Disk.tells c.flush.new.disk) two told c.gather_all.ensures.run
    c.in_ok-gather_all.ensures.pair
    (c.in_ok-gather_all.ensures.copies clients generation j two told
    (copies_owes clients c.args.state.now.facts generation j c.args.reader.now c.args.writer.now
    c.args.group.now 0 two c.requires.empty copies))
    c.flush.ensures.any_moment c.in_ok-flush.ensures.ok c.in_ok-flush.ensures.empty
    c.in_ok-flush.ensures.appended

pub returns-clause-pair : goal.returns-clause-pair
returns-clause-pair g c =
    pair_flushed c.gather_all.new.reader c.gather_all.new.writer c.flush.new.self
    c.gather_all.new.group c.in_ok-gather_all.ensures.pair c.in_ok-gather_all.ensures.waits
    c.in_ok-flush.ensures.ok

pub returns-clause-same : goal.returns-clause-same
returns-clause-same g c =
    same_flushed c.args.reader.now c.gather_all.new.reader c.args.writer.now
    c.gather_all.new.writer c.flush.new.self c.gather_all.new.group
    c.in_ok-gather_all.ensures.same c.in_ok-flush.ensures.ok

pub returns-clause-works : goal.returns-clause-works
returns-clause-works g c =
    works_flushed c.gather_all.new.reader c.gather_all.new.writer c.flush.new.self
    c.gather_all.new.group (g.D.Disk.tells c.gather_all.new.disk) (g.D.Disk.tells c.flush.new.disk)
    c.in_ok-gather_all.ensures.pair c.in_ok-gather_all.ensures.waits
    c.in_ok-gather_all.ensures.works c.flush.ensures.run c.in_ok-flush.ensures.ok
    c.in_ok-flush.ensures.appended

pub returns-in_err-flush-clause-leaves : goal.returns-in_err-flush-clause-leaves
returns-in_err-flush-clause-leaves g c =
    leaves_on c.args.writer.now.file c.gather_all.new.writer.file
    (g.D.Disk.tells c.args.disk.now).files (g.D.Disk.tells c.gather_all.new.disk).files
    (g.D.Disk.tells c.flush.new.disk).files c.in_ok-gather_all.ensures.same.writer_file
    c.gather_all.ensures.leaves c.flush.ensures.leaves

pub returns-clause-leaves : goal.returns-clause-leaves
returns-clause-leaves g c =
    leaves_on c.args.writer.now.file c.gather_all.new.writer.file
    (g.D.Disk.tells c.args.disk.now).files (g.D.Disk.tells c.gather_all.new.disk).files
    (g.D.Disk.tells c.flush.new.disk).files c.in_ok-gather_all.ensures.same.writer_file
    c.gather_all.ensures.leaves c.flush.ensures.leaves
