use Rattle.frame_journal.proofs.Calm.{reads_none, reads_sync}
use Rattle.outside.proofs.Calm.{calm_begun, calm_sync}
use Rattle.frame_journal.proofs.Appending.{breaks_as}
use Rattle.outside.proofs.MadeSteps.{breaks_then, breaks_wide}
use Rattle.outside.specs.Changes.{synced}
use Rattle.std.proofs.Common.{◌∷◌, [], Some}
use Rattle.frame_journal.proofs.gates.barrier.Goals as goal

pub returns-in_err-sync-clause-any_moment : goal.returns-in_err-sync-clause-any_moment
returns-in_err-sync-clause-any_moment g c two files =
    let o0 = g.D.Disk.tells c.args.disk.now in
    let o1 = g.D.Disk.tells c.sync.new.self in
    (calm_sync two o0 o0 o1 0 c.sync.result (calm_begun two o0 files) c.sync.ensures.call c.sync.ensures.synced).moments

pub returns-in_err-sync-2-clause-any_moment : goal.returns-in_err-sync-2-clause-any_moment
returns-in_err-sync-2-clause-any_moment g c two files =
    let o0 = g.D.Disk.tells c.args.disk.now in
    let o1 = g.D.Disk.tells c.sync.new.self in
    let o2 = g.D.Disk.tells c.sync-2.new.self in
    let first = calm_sync two o0 o0 o1 0 c.sync.result (calm_begun two o0 files) c.sync.ensures.call c.sync.ensures.synced in
    (calm_sync two o0 o1 o2 1 c.sync-2.result first c.sync-2.ensures.call c.sync-2.ensures.synced).moments

pub returns-clause-any_moment : goal.returns-clause-any_moment
returns-clause-any_moment g c two files =
    let o0 = g.D.Disk.tells c.args.disk.now in
    let o1 = g.D.Disk.tells c.sync.new.self in
    let o2 = g.D.Disk.tells c.sync-2.new.self in
    let first = calm_sync two o0 o0 o1 0 c.sync.result (calm_begun two o0 files) c.sync.ensures.call c.sync.ensures.synced in
    (calm_sync two o0 o1 o2 1 c.sync-2.result first c.sync-2.ensures.call c.sync-2.ensures.synced).moments

pub returns-in_err-sync-clause-reads : goal.returns-in_err-sync-clause-reads
returns-in_err-sync-clause-reads g c =
    let o0 = g.D.Disk.tells c.args.disk.now in
    let o1 = g.D.Disk.tells c.sync.new.self in
    reads_sync o0.files o0.files o1.files 0 c.sync.result (reads_none o0.files) c.sync.ensures.synced

pub returns-in_err-sync-2-clause-reads : goal.returns-in_err-sync-2-clause-reads
returns-in_err-sync-2-clause-reads g c =
    let o0 = g.D.Disk.tells c.args.disk.now in
    let o1 = g.D.Disk.tells c.sync.new.self in
    let o2 = g.D.Disk.tells c.sync-2.new.self in
    reads_sync o0.files o1.files o2.files 1 c.sync-2.result (reads_sync o0.files o0.files o1.files 0 c.sync.result (reads_none o0.files) c.sync.ensures.synced) c.sync-2.ensures.synced

pub returns-clause-reads : goal.returns-clause-reads
returns-clause-reads g c =
    let o0 = g.D.Disk.tells c.args.disk.now in
    let o1 = g.D.Disk.tells c.sync.new.self in
    let o2 = g.D.Disk.tells c.sync-2.new.self in
    reads_sync o0.files o1.files o2.files 1 c.sync-2.result (reads_sync o0.files o0.files o1.files 0 c.sync.result (reads_none o0.files) c.sync.ensures.synced) c.sync-2.ensures.synced

pub returns-in_err-sync-clause-does : goal.returns-in_err-sync-clause-does
returns-in_err-sync-clause-does g c =
    breaks_as _ _ c.from_residual.result _ _ c.from_residual.ensures.1
    (breaks_wide (Some (synced 0) ∷ []) (Some (synced 1) ∷ []) _ _ c.in_err-sync.ensures.does)

pub returns-in_err-sync-2-clause-does : goal.returns-in_err-sync-2-clause-does
returns-in_err-sync-2-clause-does g c =
    breaks_as _ _ c.from_residual-in_err-sync-2.result _ _ c.from_residual-in_err-sync-2.ensures.1
    (breaks_then (Some (synced 0) ∷ []) (Some (synced 1) ∷ []) _ _ _ c.in_ok-sync.ensures.does c.in_err-sync-2.ensures.does)
