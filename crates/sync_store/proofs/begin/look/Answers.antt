use Rattle.sync_store.proofs.BeginSteps.{found_first, look_moments}
use Rattle.sync_store.proofs.begin.look.Goals as goal

pub returns-clause-any_moment : goal.returns-clause-any_moment
returns-clause-any_moment g c =
    let o0 = g.D.Disk.tells c.args.disk.now in
    let o1 = g.D.Disk.tells c.barrier.new.disk in
    let o2 = g.D.Disk.tells c.any_open.new.disk in
    look_moments o0 o1 o2 c.in_ok-barrier.ensures.any_moment c.in_ok-barrier.ensures.run
    c.in_ok-barrier.ensures.settled c.any_open.ensures.looks

pub returns-clause-found : goal.returns-clause-found
returns-clause-found g c =
    let o0 = g.D.Disk.tells c.args.disk.now in
    let o1 = g.D.Disk.tells c.barrier.new.disk in
    found_first c.any_open.result o0.files o1.files c.in_ok-barrier.ensures.settled
    c.any_open.ensures.found
