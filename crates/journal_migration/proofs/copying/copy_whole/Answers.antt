use Rattle.std.proofs.Common.{ℕ, subst}
use Rattle.journal_migration.specs.Starting.{IsTakenBack, StaysShut}
use Rattle.journal_migration.proofs.Back.{back_none, copies_back, leaves_on}
use Rattle.journal_migration.proofs.Back.{works_closed}
use Rattle.journal_migration.proofs.copying.copy_whole.Goals as goal

pub take_back-requires-clause-closed : goal.take_back-requires-clause-closed
take_back-requires-clause-closed g c =
    works_closed c.args.reader.now c.args.writer.now c.file-file.result
    (g.D.Disk.tells c.args.disk.now).files (g.D.Disk.tells c.copy_to.new.disk).files
    c.file-file.ensures.value c.requires.works c.copy_to.ensures.leaves

pub returns-in-Err-clause-copies : goal.returns-in-Err-clause-copies
returns-in-Err-clause-copies g c clients generation j two told copies =
    let o0 = g.D.Disk.tells c.args.disk.now in
    let o1 = g.D.Disk.tells c.copy_to.new.disk in
    let o2 = g.D.Disk.tells c.take_back.new.disk in
    let e = c.in-Err.fault in
    copies_back clients c.args.state.now.facts generation j c.args.reader.now
    c.copy_to.new.reader c.args.writer.now c.copy_to.new.writer two o0 o1 o2 told c.requires.pair
    copies c.copy_to.ensures.run c.copy_to.ensures.leaves
    (subst (λ (k : ℕ). StaysShut k o1 o2) c.file-file.ensures.value c.take_back.ensures.moments)
    (c.in-Err.ensures.copies clients generation j two told copies).moments e c.take_back.result
    (subst (λ (k : ℕ). IsTakenBack k e o1 o2 c.take_back.result) c.file-file.ensures.value
    c.take_back.ensures.back)

pub returns-in-Err-clause-leaves : goal.returns-in-Err-clause-leaves
returns-in-Err-clause-leaves g c =
    leaves_on c.args.writer.now.file c.file-file.result (g.D.Disk.tells c.args.disk.now).files
    (g.D.Disk.tells c.copy_to.new.disk).files (g.D.Disk.tells c.take_back.new.disk).files
    c.file-file.ensures.value c.copy_to.ensures.leaves c.take_back.ensures.leaves

pub returns-in-Err-clause-back : goal.returns-in-Err-clause-back
returns-in-Err-clause-back g c =
    back_none c.args.writer.now.file c.file-file.result c.in-Err.fault c.take_back.result
    (g.D.Disk.tells c.args.disk.now) (g.D.Disk.tells c.copy_to.new.disk)
    (g.D.Disk.tells c.take_back.new.disk) c.file-file.ensures.value c.copy_to.ensures.leaves
    c.take_back.ensures.back
