use Rattle.std.proofs.Common.{Ok, sym, subst}
use Rattle.sharing_commands.specs.declared.deed.Deed.{Deed}
use Rattle.sharing_commands.specs.Adding.{GathersFront}
use Rattle.sharing_commands.specs.Deeds.{deed_batches}
use Rattle.sharing_commands.proofs.Fronts.{nothing_added}
use Rattle.sharing_commands.proofs.setting.do_deed.Goals as goal

pub returns-in-Nothing-clause-adds : goal.returns-in-Nothing-clause-adds
returns-in-Nothing-clause-adds g c =
    let clients = g.C.Clients.meaning c.args.clients.now in
    let s = c.args.store.now in
    let o = g.D.Disk.tells c.args.disk.now in
    subst (λ (d : Deed).
    GathersFront clients s s o o (deed_batches c.args.contact c.args.target.now d) (Ok tt))
    (sym c.in-Nothing.is)
    (nothing_added c.images_stand.ensures clients s o tt c.requires.stands.gathering.still_open)

pub returns-in-Skip-clause-adds : goal.returns-in-Skip-clause-adds
returns-in-Skip-clause-adds g c =
    let clients = g.C.Clients.meaning c.args.clients.now in
    let s = c.args.store.now in
    let o = g.D.Disk.tells c.args.disk.now in
    subst (λ (d : Deed).
    GathersFront clients s s o o (deed_batches c.args.contact c.args.target.now d) (Ok tt))
    (sym c.in-Skip.is)
    (nothing_added c.images_stand.ensures clients s o tt c.requires.stands.gathering.still_open)

pub returns-in-Keep-clause-adds : goal.returns-in-Keep-clause-adds
returns-in-Keep-clause-adds g c =
    let clients = g.C.Clients.meaning c.args.clients.now in
    let s = c.args.store.now in
    let o = g.D.Disk.tells c.args.disk.now in
    subst (λ (d : Deed).
    GathersFront clients s s o o (deed_batches c.args.contact c.args.target.now d) (Ok tt))
    (sym c.in-Keep.is)
    (nothing_added c.images_stand.ensures clients s o tt c.requires.stands.gathering.still_open)
