use Rattle.std.proofs.Common.{refl}
use Rattle.outside.proofs.CallSteps.{becomes_told}
use Rattle.frame_journal.specs.Create.{ClearsFile}
use Rattle.sync_store.proofs.BeginSteps.{begin_then, begun_becomes, clear_moments}
use Rattle.sync_store.proofs.begin.begin.Goals as goal

pub returns-in_err-clear-clause-any_moment : goal.returns-in_err-clear-clause-any_moment
returns-in_err-clear-clause-any_moment g c two told =
    let o0 = g.D.Disk.tells c.args.disk.now in
    let o1 = g.D.Disk.tells c.clear.new.disk in
    let free = c.requires two told in
    clear_moments two o0 o0 o1 free refl
    (c.in_err-clear.ensures.any_moment two told free.first_settled)

pub returns-in_err-create-clause-any_moment : goal.returns-in_err-create-clause-any_moment
returns-in_err-create-clause-any_moment g c two told =
    let o0 = g.D.Disk.tells c.args.disk.now in
    let o1 = g.D.Disk.tells c.clear.new.disk in
    let o2 = g.D.Disk.tells c.create.new.disk in
    let free = c.requires two told in
    let at = becomes_told (ClearsFile 0) o0.files o1.files two told c.in_ok-clear.ensures.cleared in
    begin_then c.cite_laws.ensures.stand two at.0 o0 o1 o2 free told
    (c.in_ok-clear.ensures.any_moment two told free.first_settled) c.in_ok-clear.ensures.run
    at.2.other (c.in_err-create.ensures.any_moment at.0 at.1)

pub returns-clause-any_moment : goal.returns-clause-any_moment
returns-clause-any_moment g c two told =
    let o0 = g.D.Disk.tells c.args.disk.now in
    let o1 = g.D.Disk.tells c.clear.new.disk in
    let o2 = g.D.Disk.tells c.create.new.disk in
    let free = c.requires two told in
    let at = becomes_told (ClearsFile 0) o0.files o1.files two told c.in_ok-clear.ensures.cleared in
    begin_then c.cite_laws.ensures.stand two at.0 o0 o1 o2 free told
    (c.in_ok-clear.ensures.any_moment two told free.first_settled) c.in_ok-clear.ensures.run
    at.2.other (c.in_ok-create.ensures.any_moment at.0 at.1)

pub returns-clause-begun : goal.returns-clause-begun
returns-clause-begun g c =
    let o0 = g.D.Disk.tells c.args.disk.now in
    let o1 = g.D.Disk.tells c.clear.new.disk in
    let o2 = g.D.Disk.tells c.create.new.disk in
    begun_becomes c.cite_laws.ensures.stand o0.files o1.files o2.files c.requires
    c.in_ok-clear.ensures.cleared c.in_ok-create.ensures.created
