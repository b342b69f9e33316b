use Rattle.std.proofs.Common.{ap, arith, length, sym, subst}
use Rattle.outside.proofs.CallSteps.{run_then}
use Rattle.frame_journal.specs.Group.{IsGroup}
use Rattle.frame_journal.proofs.Waiting.{gathers_long, waits_none}
use Rattle.journal_migration.proofs.Back.{leaves_on}
use Rattle.journal_compaction.specs.Planning.{plan_pages}
use Rattle.journal_compaction.proofs.Working.{shut_one, shut_then, whole_written, works_flushed}
use Rattle.journal_compaction.proofs.Working.{written_of}
use Rattle.journal_compaction.proofs.writing.write_whole.Goals as goal

pub write_plan-requires-clause-waits : goal.write_plan-requires-clause-waits
write_plan-requires-clause-waits g c = subst IsGroup (sym c.requires.none) waits_none

pub flush-requires-clause-room : goal.flush-requires-clause-room
flush-requires-clause-room g c =
    let waits = subst IsGroup (sym c.requires.none) waits_none in
    let long = gathers_long c.args.writer.now c.write_plan.new.writer c.args.page.now.group
    c.write_plan.new.page.group (plan_pages c.args.state.now.facts c.args.plan.now)
    (g.D.Disk.tells c.args.disk.now).files (g.D.Disk.tells c.write_plan.new.disk).files waits
    c.in_ok-write_plan.ensures.adding in
    omega (arith, long, ap length c.requires.none, c.requires.room)

pub returns-in_err-flush-clause-run : goal.returns-in_err-flush-clause-run
returns-in_err-flush-clause-run g c =
    run_then (g.D.Disk.tells c.args.disk.now) (g.D.Disk.tells c.write_plan.new.disk)
    (g.D.Disk.tells c.flush.new.disk) c.write_plan.ensures.run c.flush.ensures.run

pub returns-clause-run : goal.returns-clause-run
returns-clause-run g c =
    run_then (g.D.Disk.tells c.args.disk.now) (g.D.Disk.tells c.write_plan.new.disk)
    (g.D.Disk.tells c.flush.new.disk) c.write_plan.ensures.run c.flush.ensures.run

pub returns-clause-adding : goal.returns-clause-adding
returns-clause-adding g c =
    whole_written c.args.writer.now c.write_plan.new.writer c.flush.new.self
    c.args.page.now.group c.write_plan.new.page.group _ (g.D.Disk.tells c.args.disk.now).files
    (g.D.Disk.tells c.write_plan.new.disk).files (g.D.Disk.tells c.flush.new.disk).files
    c.requires.none c.in_ok-write_plan.ensures.adding c.in_ok-flush.ensures.ok
    c.in_ok-flush.ensures.appended

pub returns-clause-works : goal.returns-clause-works
returns-clause-works g c =
    works_flushed c.write_plan.new.writer c.flush.new.self c.write_plan.new.page.group
    (g.D.Disk.tells c.write_plan.new.disk) (g.D.Disk.tells c.flush.new.disk)
    c.in_ok-write_plan.ensures.waits c.flush.ensures.run c.in_ok-flush.ensures.ok
    c.in_ok-flush.ensures.appended c.in_ok-write_plan.ensures.works

pub returns-in_err-flush-clause-shut : goal.returns-in_err-flush-clause-shut
returns-in_err-flush-clause-shut g c =
    let waits = subst IsGroup (sym c.requires.none) waits_none in
    let o0 = g.D.Disk.tells c.args.disk.now in
    let o1 = g.D.Disk.tells c.write_plan.new.disk in
    let o2 = g.D.Disk.tells c.flush.new.disk in
    shut_then c.args.writer.now c.write_plan.new.writer _ o0 o1 o2 c.write_plan.ensures.shut
    c.write_plan.ensures.run
    (written_of c.args.writer.now c.write_plan.new.writer c.args.page.now.group
    c.write_plan.new.page.group _ o0.files o1.files waits c.in_ok-write_plan.ensures.adding)
    (shut_one c.write_plan.new.writer c.write_plan.new.page.group o1 o2
    c.in_ok-write_plan.ensures.waits c.in_ok-write_plan.ensures.works
    c.flush.ensures.any_moment)

pub returns-clause-shut : goal.returns-clause-shut
returns-clause-shut g c =
    let waits = subst IsGroup (sym c.requires.none) waits_none in
    let o0 = g.D.Disk.tells c.args.disk.now in
    let o1 = g.D.Disk.tells c.write_plan.new.disk in
    let o2 = g.D.Disk.tells c.flush.new.disk in
    shut_then c.args.writer.now c.write_plan.new.writer _ o0 o1 o2 c.write_plan.ensures.shut
    c.write_plan.ensures.run
    (written_of c.args.writer.now c.write_plan.new.writer c.args.page.now.group
    c.write_plan.new.page.group _ o0.files o1.files waits c.in_ok-write_plan.ensures.adding)
    (shut_one c.write_plan.new.writer c.write_plan.new.page.group o1 o2
    c.in_ok-write_plan.ensures.waits c.in_ok-write_plan.ensures.works
    c.flush.ensures.any_moment)

pub returns-in_err-flush-clause-leaves : goal.returns-in_err-flush-clause-leaves
returns-in_err-flush-clause-leaves g c =
    let waits = subst IsGroup (sym c.requires.none) waits_none in
    let o0 = (g.D.Disk.tells c.args.disk.now).files in
    let o1 = (g.D.Disk.tells c.write_plan.new.disk).files in
    let w = written_of c.args.writer.now c.write_plan.new.writer c.args.page.now.group
    c.write_plan.new.page.group _ o0 o1 waits c.in_ok-write_plan.ensures.adding in
    leaves_on c.args.writer.now.file c.write_plan.new.writer.file o0 o1
    (g.D.Disk.tells c.flush.new.disk).files w.grows.file_is c.write_plan.ensures.leaves
    c.flush.ensures.leaves

pub returns-clause-leaves : goal.returns-clause-leaves
returns-clause-leaves g c =
    let waits = subst IsGroup (sym c.requires.none) waits_none in
    let o0 = (g.D.Disk.tells c.args.disk.now).files in
    let o1 = (g.D.Disk.tells c.write_plan.new.disk).files in
    let w = written_of c.args.writer.now c.write_plan.new.writer c.args.page.now.group
    c.write_plan.new.page.group _ o0 o1 waits c.in_ok-write_plan.ensures.adding in
    leaves_on c.args.writer.now.file c.write_plan.new.writer.file o0 o1
    (g.D.Disk.tells c.flush.new.disk).files w.grows.file_is c.write_plan.ensures.leaves
    c.flush.ensures.leaves
