use Rattle.outside.proofs.CallSteps.{becomes_told}
use Rattle.frame_journal.specs.Create.{LeavesClosed}
use Rattle.frame_journal.proofs.Closed.{back_synced, clears_again, leaves_syncs, leaves_then}
use Rattle.frame_journal.proofs.gates.clear_back.Goals as goal

pub returns-in_err-sync-clause-any_moment : goal.returns-in_err-sync-clause-any_moment
returns-in_err-sync-clause-any_moment g c two told =
    let o0 = g.D.Disk.tells c.args.disk.now in
    let o1 = g.D.Disk.tells c.cut_back.new.disk in
    let mid = becomes_told (LeavesClosed c.args.file) o0.files o1.files two told
    c.cut_back.ensures.leaves in
    back_synced two mid.0 o0 o1 (g.D.Disk.tells c.sync.new.self) c.args.file c.sync.result mid.1
    c.cut_back.ensures.run.same_links mid.2.other (mid.2.closed (c.requires.closed two told))
    c.sync.ensures.call c.sync.ensures.synced (c.cut_back.ensures.any_moment two told)

pub returns-in_err-sync-clause-leaves : goal.returns-in_err-sync-clause-leaves
returns-in_err-sync-clause-leaves g c =
    leaves_then c.args.file (g.D.Disk.tells c.args.disk.now).files
    (g.D.Disk.tells c.cut_back.new.disk).files (g.D.Disk.tells c.sync.new.self).files
    c.cut_back.ensures.leaves
    (leaves_syncs c.args.file c.sync.result (g.D.Disk.tells c.cut_back.new.disk).files
    (g.D.Disk.tells c.sync.new.self).files c.sync.ensures.synced)

pub returns-clause-cleared : goal.returns-clause-cleared
returns-clause-cleared g c =
    clears_again c.args.file tt (g.D.Disk.tells c.args.disk.now).files
    (g.D.Disk.tells c.cut_back.new.disk).files (g.D.Disk.tells c.sync.new.self).files
    c.requires.closed c.in_ok-cut_back.ensures.cut c.in_ok-sync.ensures.synced

pub returns-clause-any_moment : goal.returns-clause-any_moment
returns-clause-any_moment g c two told =
    let o0 = g.D.Disk.tells c.args.disk.now in
    let o1 = g.D.Disk.tells c.cut_back.new.disk in
    let mid = becomes_told (LeavesClosed c.args.file) o0.files o1.files two told
    c.cut_back.ensures.leaves in
    back_synced two mid.0 o0 o1 (g.D.Disk.tells c.sync.new.self) c.args.file c.sync.result mid.1
    c.cut_back.ensures.run.same_links mid.2.other (mid.2.closed (c.requires.closed two told))
    c.sync.ensures.call c.sync.ensures.synced (c.cut_back.ensures.any_moment two told)

pub returns-clause-leaves : goal.returns-clause-leaves
returns-clause-leaves g c =
    leaves_then c.args.file (g.D.Disk.tells c.args.disk.now).files
    (g.D.Disk.tells c.cut_back.new.disk).files (g.D.Disk.tells c.sync.new.self).files
    c.cut_back.ensures.leaves
    (leaves_syncs c.args.file c.sync.result (g.D.Disk.tells c.cut_back.new.disk).files
    (g.D.Disk.tells c.sync.new.self).files c.sync.ensures.synced)
