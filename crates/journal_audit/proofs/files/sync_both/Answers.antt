use Rattle.outside.proofs.Calm.{calm_begun, calm_sync}
use Rattle.journal_audit.proofs.files.sync_both.Goals as goal

pub returns-in_err-sync-clause-any_moment : goal.returns-in_err-sync-clause-any_moment
returns-in_err-sync-clause-any_moment g c two files =
    let o0 = g.D.Disk.tells c.args.disk.now in
    let o1 = g.D.Disk.tells c.sync.new.self in
    (calm_sync two o0 o0 o1 0 c.sync.result (calm_begun two o0 files) c.sync.ensures.call c.sync.ensures.synced).moments

pub returns-in_err-sync-2-clause-any_moment : goal.returns-in_err-sync-2-clause-any_moment
returns-in_err-sync-2-clause-any_moment g c two files =
    let o0 = g.D.Disk.tells c.args.disk.now in
    let o1 = g.D.Disk.tells c.sync.new.self in
    let o2 = g.D.Disk.tells c.sync-2.new.self in
    let first = calm_sync two o0 o0 o1 0 c.sync.result (calm_begun two o0 files) c.sync.ensures.call c.sync.ensures.synced in
    (calm_sync two o0 o1 o2 1 c.sync-2.result first c.sync-2.ensures.call c.sync-2.ensures.synced).moments

pub returns-clause-any_moment : goal.returns-clause-any_moment
returns-clause-any_moment g c two files =
    let o0 = g.D.Disk.tells c.args.disk.now in
    let o1 = g.D.Disk.tells c.sync.new.self in
    let o2 = g.D.Disk.tells c.sync-2.new.self in
    let first = calm_sync two o0 o0 o1 0 c.sync.result (calm_begun two o0 files) c.sync.ensures.call c.sync.ensures.synced in
    (calm_sync two o0 o1 o2 1 c.sync-2.result first c.sync-2.ensures.call c.sync-2.ensures.synced).moments
