use Rattle.outside.proofs.CallSteps.{becomes_told}
use Rattle.sync_store.proofs.BeginSteps.{init_then}
use Rattle.sync_store.proofs.store.Store.init.Goals as goal
use Rattle.outside.specs.Files.{SyncsBoth}

pub returns-in_err-begin-clause-any_moment : goal.returns-in_err-begin-clause-any_moment
returns-in_err-begin-clause-any_moment g c two told =
    let o0 = g.D.Disk.tells c.args.disk.now in
    let o1 = g.D.Disk.tells c.look.new.disk in
    let o2 = g.D.Disk.tells c.begin.new.disk in
    let at = becomes_told SyncsBoth o0.files o1.files two told c.in_ok-found.ensures.settled in
    init_then o0 o1 o2 two at.0 told c.in_ok-found.ensures.any_moment c.in_ok-found.ensures.run at.2
    (c.in_err-begin.ensures.any_moment at.0 at.1)

pub returns-clause-any_moment : goal.returns-clause-any_moment
returns-clause-any_moment g c two told =
    let o0 = g.D.Disk.tells c.args.disk.now in
    let o1 = g.D.Disk.tells c.look.new.disk in
    let o2 = g.D.Disk.tells c.begin.new.disk in
    let at = becomes_told SyncsBoth o0.files o1.files two told c.in_ok-found.ensures.settled in
    init_then o0 o1 o2 two at.0 told c.in_ok-found.ensures.any_moment c.in_ok-found.ensures.run at.2
    (c.in_ok-begin.ensures.any_moment at.0 at.1)
