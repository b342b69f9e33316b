use Rattle.journal_migration.proofs.Back.{back_none, leaves_on}
use Rattle.journal_compaction.proofs.Working.{shut_back, works_closed}
use Rattle.journal_compaction.proofs.writing.write_account.Goals as goal

pub take_back-requires-clause-closed : goal.take_back-requires-clause-closed
take_back-requires-clause-closed g c =
    works_closed c.args.writer.now c.file-file.result (g.D.Disk.tells c.args.disk.now).files
    (g.D.Disk.tells c.write_whole.new.disk).files c.file-file.ensures.value c.requires.works
    c.write_whole.ensures.leaves

pub returns-in-Err-clause-shut : goal.returns-in-Err-clause-shut
returns-in-Err-clause-shut g c =
    shut_back c.args.writer.now.file c.file-file.result (g.D.Disk.tells c.args.disk.now)
    (g.D.Disk.tells c.write_whole.new.disk) (g.D.Disk.tells c.take_back.new.disk)
    c.file-file.ensures.value c.write_whole.ensures.shut c.write_whole.ensures.run
    c.write_whole.ensures.leaves c.take_back.ensures.moments

pub returns-in-Err-clause-leaves : goal.returns-in-Err-clause-leaves
returns-in-Err-clause-leaves g c =
    leaves_on c.args.writer.now.file c.file-file.result (g.D.Disk.tells c.args.disk.now).files
    (g.D.Disk.tells c.write_whole.new.disk).files (g.D.Disk.tells c.take_back.new.disk).files
    c.file-file.ensures.value c.write_whole.ensures.leaves c.take_back.ensures.leaves

pub returns-in-Err-clause-back : goal.returns-in-Err-clause-back
returns-in-Err-clause-back g c =
    back_none c.args.writer.now.file c.file-file.result c.in-Err.fault c.take_back.result
    (g.D.Disk.tells c.args.disk.now) (g.D.Disk.tells c.write_whole.new.disk)
    (g.D.Disk.tells c.take_back.new.disk) c.file-file.ensures.value c.write_whole.ensures.leaves
    c.take_back.ensures.back
