use Rattle.frame_journal.proofs.ClearSteps.{length_read, cuts_ok, cuts_err, cut_synced, cut_unsynced}
use Rattle.frame_journal.proofs.Closed.{leaves_cuts, leaves_looks, leaves_shortened, leaves_then}
use Rattle.frame_journal.proofs.gates.shorten.Goals as goal

pub returns-in_err-len-clause-any_moment : goal.returns-in_err-len-clause-any_moment
returns-in_err-len-clause-any_moment g c two told pending =
    let o0 = g.D.Disk.tells c.args.disk.now in
    let o1 = g.D.Disk.tells c.len.new.self in
    let shut = c.requires.shut two told in
    let first = length_read two o0 c.args.file told o1 pending shut c.len.ensures.call c.len.ensures.same in
    first.moments

pub returns-then-len-le1-clause-any_moment : goal.returns-then-len-le1-clause-any_moment
returns-then-len-le1-clause-any_moment g c two told pending =
    let o0 = g.D.Disk.tells c.args.disk.now in
    let o1 = g.D.Disk.tells c.len.new.self in
    let shut = c.requires.shut two told in
    let first = length_read two o0 c.args.file told o1 pending shut c.len.ensures.call c.len.ensures.same in
    first.moments

pub returns-in_err-cut-clause-any_moment : goal.returns-in_err-cut-clause-any_moment
returns-in_err-cut-clause-any_moment g c two told pending =
    let o0 = g.D.Disk.tells c.args.disk.now in
    let o1 = g.D.Disk.tells c.len.new.self in
    let shut = c.requires.shut two told in
    let first = length_read two o0 c.args.file told o1 pending shut c.len.ensures.call c.len.ensures.same in
    cuts_err two o0 c.args.file told o1 (g.D.Disk.tells c.cut.new.self) _ shut first c.in_err-cut.ensures.call c.in_err-cut.ensures.cut

pub returns-in_err-sync-clause-any_moment : goal.returns-in_err-sync-clause-any_moment
returns-in_err-sync-clause-any_moment g c two told pending =
    let o0 = g.D.Disk.tells c.args.disk.now in
    let o1 = g.D.Disk.tells c.len.new.self in
    let shut = c.requires.shut two told in
    let first = length_read two o0 c.args.file told o1 pending shut c.len.ensures.call c.len.ensures.same in
    let o2 = g.D.Disk.tells c.cut.new.self in
    let second = cuts_ok two o0 c.args.file told o1 o2 tt shut first c.in_ok-cut.ensures.call c.in_ok-cut.ensures.cut in
    cut_unsynced two o0 c.args.file told o2 (g.D.Disk.tells c.sync.new.self) _ shut second c.in_err-sync.ensures.call c.in_err-sync.ensures.synced

pub returns-clause-any_moment : goal.returns-clause-any_moment
returns-clause-any_moment g c two told pending =
    let o0 = g.D.Disk.tells c.args.disk.now in
    let o1 = g.D.Disk.tells c.len.new.self in
    let shut = c.requires.shut two told in
    let first = length_read two o0 c.args.file told o1 pending shut c.len.ensures.call c.len.ensures.same in
    let o2 = g.D.Disk.tells c.cut.new.self in
    let second = cuts_ok two o0 c.args.file told o1 o2 tt shut first c.in_ok-cut.ensures.call c.in_ok-cut.ensures.cut in
    cut_synced two o0 c.args.file told o2 (g.D.Disk.tells c.sync.new.self) tt shut second c.in_ok-sync.ensures.call c.in_ok-sync.ensures.synced

pub returns-in_err-len-clause-leaves : goal.returns-in_err-len-clause-leaves
returns-in_err-len-clause-leaves g c =
    leaves_looks c.args.file (g.D.Disk.tells c.args.disk.now).files (g.D.Disk.tells c.len.new.self).files c.len.ensures.same

pub returns-then-len-le1-clause-leaves : goal.returns-then-len-le1-clause-leaves
returns-then-len-le1-clause-leaves g c =
    leaves_looks c.args.file (g.D.Disk.tells c.args.disk.now).files (g.D.Disk.tells c.len.new.self).files c.len.ensures.same

pub returns-in_err-cut-clause-leaves : goal.returns-in_err-cut-clause-leaves
returns-in_err-cut-clause-leaves g c =
    leaves_then c.args.file (g.D.Disk.tells c.args.disk.now).files (g.D.Disk.tells c.len.new.self).files (g.D.Disk.tells c.cut.new.self).files
    (leaves_looks c.args.file (g.D.Disk.tells c.args.disk.now).files (g.D.Disk.tells c.len.new.self).files c.len.ensures.same)
    (leaves_cuts c.args.file c.cut.result (g.D.Disk.tells c.len.new.self).files (g.D.Disk.tells c.cut.new.self).files c.cut.ensures.cut)

pub returns-in_err-sync-clause-leaves : goal.returns-in_err-sync-clause-leaves
returns-in_err-sync-clause-leaves g c =
    leaves_shortened c.args.file c.cut.result c.sync.result (g.D.Disk.tells c.args.disk.now).files (g.D.Disk.tells c.len.new.self).files (g.D.Disk.tells c.cut.new.self).files (g.D.Disk.tells c.sync.new.self).files c.len.ensures.same c.cut.ensures.cut c.sync.ensures.synced

pub returns-clause-leaves : goal.returns-clause-leaves
returns-clause-leaves g c =
    leaves_shortened c.args.file c.cut.result c.sync.result (g.D.Disk.tells c.args.disk.now).files (g.D.Disk.tells c.len.new.self).files (g.D.Disk.tells c.cut.new.self).files (g.D.Disk.tells c.sync.new.self).files c.len.ensures.same c.cut.ensures.cut c.sync.ensures.synced
