use Rattle.std.proofs.Common.{ℕ, Option, Ok, subst}
use Rattle.outside.proofs.CallSteps.{run_none, run_then}
use Rattle.frame_journal.proofs.Closed.{leaves_none}
use Rattle.journal_migration.specs.Copying.{GathersNext}
use Rattle.journal_migration.proofs.All.{all_done, all_failed, all_further, copied_none, pair_on}
use Rattle.journal_migration.proofs.All.{pair_still}
use Rattle.journal_migration.proofs.Errors.{err_is}
use Rattle.journal_migration.proofs.Back.{leaves_on}
use Rattle.journal_migration.proofs.copying.gather_all.Goals as goal

pub frames-init : goal.frames-init
frames-init g c = record {
  pair = c.requires.pair;
  waits = c.requires.waits;
  works = c.requires.works;
  same = pair_still c.args.reader.now c.args.writer.now;
  copies = λ clients generation j two told copies.
      copied_none clients c.args.state.now.facts generation j c.args.reader.now c.args.writer.now
      c.args.group.now 0
      (g.D.Disk.tells c.args.disk.now) two told c.requires.pair copies;
  leaves = leaves_none c.args.writer.now.file (g.D.Disk.tells c.args.disk.now).files;
  run = run_none (g.D.Disk.tells c.args.disk.now);
}

pub returns-in_err-brought-clause-copies : goal.returns-in_err-brought-clause-copies
returns-in_err-brought-clause-copies g c clients generation j two told copies =
    all_failed clients c.args.state.now.facts generation j c.args.reader.now c.frames.reader
    c.copy_next.new.reader c.args.writer.now c.frames.writer c.copy_next.new.writer
    c.frames.group c.copy_next.new.group c.frames.count
    (g.D.Disk.tells c.args.disk.now) (g.D.Disk.tells c.frames.disk)
    (g.D.Disk.tells c.copy_next.new.disk) two told c.frames.invariant.run
    c.frames.invariant.same
    (c.frames.invariant.copies clients generation j two told copies) c.in_err-brought.field-0.0
    (λ mid at here. c.in_err-brought.ensures.copies clients generation j mid at here)
    c.from_residual.result
    (err_is c.from_residual.result c.in_err-brought.field-0.0 c.from_residual.ensures.1)

pub frames-preserved : goal.frames-preserved
frames-preserved g c = record {
  pair = c.in_ok-brought.ensures.pair;
  waits = c.in_ok-brought.ensures.waits;
  works = c.in_ok-brought.ensures.works;
  same =
      pair_on c.args.reader.now c.frames.reader c.copy_next.new.reader c.args.writer.now
      c.frames.writer c.copy_next.new.writer c.frames.invariant.same
      c.in_ok-brought.ensures.same;
  copies = λ clients generation j two told copies.
      all_further clients c.args.state.now.facts generation j c.args.reader.now c.frames.reader
      c.copy_next.new.reader c.args.writer.now c.frames.writer c.copy_next.new.writer
      c.frames.group c.copy_next.new.group c.frames.count
      (g.D.Disk.tells c.args.disk.now) (g.D.Disk.tells c.frames.disk)
      (g.D.Disk.tells c.copy_next.new.disk) two told c.frames.invariant.run
      c.frames.invariant.same
      (c.frames.invariant.copies clients generation j two told copies) c.in-Some.brought
      c.saturating_add-count.result c.saturating_add-count.ensures
      (λ mid at here.
      subst
      (λ (o : Option ℕ). GathersNext clients c.args.state.now.facts generation j
      c.frames.reader.file c.copy_next.new.reader c.copy_next.new.writer c.copy_next.new.group
      c.frames.count
      (g.D.Disk.tells c.frames.disk) (g.D.Disk.tells c.copy_next.new.disk) (Ok o)) c.in-Some.is
      (c.in_ok-brought.ensures.copies clients generation j mid at here));
  leaves =
      leaves_on c.args.writer.now.file c.frames.writer.file
      (g.D.Disk.tells c.args.disk.now).files (g.D.Disk.tells c.frames.disk).files
      (g.D.Disk.tells c.copy_next.new.disk).files c.frames.invariant.same.writer_file
      c.frames.invariant.leaves c.copy_next.ensures.leaves;
  run =
      run_then (g.D.Disk.tells c.args.disk.now) (g.D.Disk.tells c.frames.disk)
      (g.D.Disk.tells c.copy_next.new.disk) c.frames.invariant.run c.in_ok-brought.ensures.run;
}

pub returns-in-None-clause-copies : goal.returns-in-None-clause-copies
returns-in-None-clause-copies g c clients generation j two told copies =
    all_done clients c.args.state.now.facts generation j c.args.reader.now c.frames.reader
    c.copy_next.new.reader c.args.writer.now c.frames.writer c.copy_next.new.writer
    c.frames.group c.copy_next.new.group c.frames.count
    (g.D.Disk.tells c.args.disk.now) (g.D.Disk.tells c.frames.disk)
    (g.D.Disk.tells c.copy_next.new.disk) two told c.frames.invariant.run
    c.frames.invariant.same
    (c.frames.invariant.copies clients generation j two told copies)
    (λ mid at here.
    subst
    (λ (o : Option ℕ). GathersNext clients c.args.state.now.facts generation j
    c.frames.reader.file c.copy_next.new.reader c.copy_next.new.writer c.copy_next.new.group
    c.frames.count
    (g.D.Disk.tells c.frames.disk) (g.D.Disk.tells c.copy_next.new.disk) (Ok o)) c.in-None.is
    (c.in_ok-brought.ensures.copies clients generation j mid at here))

pub returns-in_err-brought-clause-leaves : goal.returns-in_err-brought-clause-leaves
returns-in_err-brought-clause-leaves g c =
    leaves_on c.args.writer.now.file c.frames.writer.file
    (g.D.Disk.tells c.args.disk.now).files (g.D.Disk.tells c.frames.disk).files
    (g.D.Disk.tells c.copy_next.new.disk).files c.frames.invariant.same.writer_file
    c.frames.invariant.leaves c.copy_next.ensures.leaves

pub returns-in-None-clause-leaves : goal.returns-in-None-clause-leaves
returns-in-None-clause-leaves g c =
    leaves_on c.args.writer.now.file c.frames.writer.file
    (g.D.Disk.tells c.args.disk.now).files (g.D.Disk.tells c.frames.disk).files
    (g.D.Disk.tells c.copy_next.new.disk).files c.frames.invariant.same.writer_file
    c.frames.invariant.leaves c.copy_next.ensures.leaves
