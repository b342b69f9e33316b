use Rattle.std.proofs.Common.{◌≡◌, Bool, arith, ap, ◌∙◌, inl, inr}
use Rattle.resident.proofs.EraLemmas.{dialled_kept, era_may, era_stands, runs_settled, unsettled_era}
use Rattle.resident.proofs.LinkLemmas.{asked_at}
use Rattle.resident.proofs.working.hear_on.Goals as goal

pub settle-requires : goal.settle-requires
settle-requires g c = c.requires.ready

pub receive-requires-clause-aside : goal.receive-requires-clause-aside
receive-requires-clause-aside g c =
    (runs_settled c.args.aside.now c.args.store.now c.settle.new.store
    (g.H.Disk.tells c.args.host.now) (g.H.Disk.tells c.settle.new.host) c.in-Ok.ensures.only
    c.in-Ok.ensures.settles.run.same_links c.requires.runs).sessions

pub receive-requires-clause-may : goal.receive-requires-clause-may
receive-requires-clause-may g c =
    let runs =
    runs_settled c.args.aside.now c.args.store.now c.settle.new.store
    (g.H.Disk.tells c.args.host.now) (g.H.Disk.tells c.settle.new.host) c.in-Ok.ensures.only
    c.in-Ok.ensures.settles.run.same_links c.requires.runs in
    let dialled = runs.dialled in
    era_may (g.C.Clients.meaning c.args.clients.now) c.args.aside.now c.settle.new.store
    (g.H.Disk.tells c.settle.new.host) c.in-Ok.ensures.stands (omega (arith, dialled))

pub receive-requires-clause-attached : goal.receive-requires-clause-attached
receive-requires-clause-attached g c =
    (asked_at c.args.aside.now c.args.link c.requires.asked).0

pub receive-requires-clause-asked : goal.receive-requires-clause-asked
receive-requires-clause-asked g c = (asked_at c.args.aside.now c.args.link c.requires.asked).1

pub returns-in-Ok-clause-stands : goal.returns-in-Ok-clause-stands
returns-in-Ok-clause-stands g c =
    let clients = g.C.Clients.meaning c.args.clients.now in
    let a = c.args.aside.now in
    let a' = c.receive.new.self in
    let s1 = c.settle.new.store in
    let s' = c.receive.new.store in
    let o = g.H.Disk.tells c.args.host.now in
    let o1 = g.H.Disk.tells c.settle.new.host in
    let o' = g.H.Disk.tells c.receive.new.host in
    let e = c.receive.ensures in
    let opened = c.requires.runs.still_open in
    let runs =
    runs_settled a c.args.store.now s1 o o1 c.in-Ok.ensures.only
    c.in-Ok.ensures.settles.run.same_links c.requires.runs in
    era_stands clients a a' s1 s' c.settle.new.host c.receive.new.host o1 o' c.receive.result
    c.in-Ok.ensures.stands.ready opened e.answers e.goes e.may (e.stops opened)
    (dialled_kept a a' o1 o' e.goes.goes.same_dialled s1 s' c.receive.result runs.dialled e.kept)

pub returns-in-Ok-clause-did : goal.returns-in-Ok-clause-did
returns-in-Ok-clause-did g c =
    let e = c.receive.ensures in
    let opened = c.requires.runs.still_open in
    inl (record {
      store = c.settle.new.store;
      host = c.settle.new.host;
      settled = c.in-Ok.ensures.settles;
      has = record {
        answers = e.answers;
        goes = e.goes;
        kept = e.kept;
        stops = e.stops opened;
        went = e.went opened;
        stopped = e.stopped opened;
      };
    })

pub returns-in-Err-clause-stands : goal.returns-in-Err-clause-stands
returns-in-Err-clause-stands g c =
    unsettled_era Bool (g.C.Clients.meaning c.args.clients.now) c.in-Err.fault c.args.aside.now
    c.args.store.now c.settle.new.store (g.H.Disk.tells c.args.host.now)
    (g.H.Disk.tells c.settle.new.host) c.in-Err.ensures.settles c.in-Err.ensures.stands

pub returns-in-Err-clause-did : goal.returns-in-Err-clause-did
returns-in-Err-clause-did g c = inr c.in-Err.ensures.settles
