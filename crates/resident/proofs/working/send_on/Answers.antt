use Rattle.std.proofs.Common.{◌≡◌, ℕ, arith, ap, ◌∙◌, inl, inr}
use Rattle.resident.proofs.EraLemmas.{dialled_kept, era_may, era_stands, runs_settled, unsettled_era}
use Rattle.resident.proofs.LinkLemmas.{open_at}
use Rattle.resident.proofs.StayLemmas.{ready_over, served_over}
use Rattle.resident.proofs.working.send_on.Goals as goal

pub settle-requires : goal.settle-requires
settle-requires g c = c.requires.ready

pub send_due-requires-clause-aside : goal.send_due-requires-clause-aside
send_due-requires-clause-aside g c =
    (runs_settled c.args.aside.now c.args.store.now c.settle.new.store
    (g.H.Disk.tells c.args.host.now) (g.H.Disk.tells c.settle.new.host) c.in-Ok.ensures.only
    c.in-Ok.ensures.settles.run.same_links c.requires.runs).sessions

pub send_due-requires-clause-may : goal.send_due-requires-clause-may
send_due-requires-clause-may g c =
    let clients = g.C.Clients.meaning c.args.clients.now in
    let s1 = c.settle.new.store in
    let o1 = g.H.Disk.tells c.settle.new.host in
    let o2 = g.H.Disk.tells c.now-reading.new.self in
    let runs =
    runs_settled c.args.aside.now c.args.store.now s1 (g.H.Disk.tells c.args.host.now) o1
    c.in-Ok.ensures.only c.in-Ok.ensures.settles.run.same_links c.requires.runs in
    let dialled = runs.dialled in
    let same = c.now-reading.ensures.links.same_dialled in
    era_may clients c.args.aside.now s1 o2
    (served_over clients s1 o1 o2 c.now-reading.ensures.call.same_files c.in-Ok.ensures.stands)
    (omega (arith, dialled, same))

pub send_due-requires-clause-attached : goal.send_due-requires-clause-attached
send_due-requires-clause-attached g c =
    (open_at c.args.aside.now c.args.link c.requires.open).0

pub send_due-requires-clause-unclosed : goal.send_due-requires-clause-unclosed
send_due-requires-clause-unclosed g c = (open_at c.args.aside.now c.args.link c.requires.open).1

pub returns-in-Ok-clause-stands : goal.returns-in-Ok-clause-stands
returns-in-Ok-clause-stands g c =
    let clients = g.C.Clients.meaning c.args.clients.now in
    let a = c.args.aside.now in
    let a' = c.send_due.new.self in
    let s1 = c.settle.new.store in
    let s' = c.send_due.new.store in
    let o1 = g.H.Disk.tells c.settle.new.host in
    let o2 = g.H.Disk.tells c.now-reading.new.self in
    let o' = g.H.Disk.tells c.send_due.new.host in
    let e = c.send_due.ensures in
    let opened = c.requires.runs.still_open in
    let runs =
    runs_settled a c.args.store.now s1 (g.H.Disk.tells c.args.host.now) o1 c.in-Ok.ensures.only
    c.in-Ok.ensures.settles.run.same_links c.requires.runs in
    era_stands clients a a' s1 s' c.now-reading.new.self c.send_due.new.host o2 o'
    c.send_due.result
    (ready_over clients s1 o1 o2 c.now-reading.ensures.call.same_files
    c.in-Ok.ensures.stands.ready) opened e.answers e.goes e.may (e.stops opened)
    (dialled_kept a a' o2 o' e.goes.goes.same_dialled s1 s' c.send_due.result
    (c.now-reading.ensures.links.same_dialled ∙ runs.dialled) e.kept)

pub returns-in-Ok-clause-did : goal.returns-in-Ok-clause-did
returns-in-Ok-clause-did g c =
    let e = c.send_due.ensures in
    let opened = c.requires.runs.still_open in
    inl (record {
      store = c.settle.new.store;
      host = c.settle.new.host;
      settled = c.in-Ok.ensures.settles;
      has = record {
        read = c.now-reading.new.self;
        now = c.now-reading.result;
        quiet = c.now-reading.ensures.call;
        reading = c.now-reading.ensures.links;
        sends = record {
          answers = e.answers;
          goes = e.goes;
          kept = e.kept;
          stops = e.stops opened;
          went = e.went opened;
          stopped = e.stopped opened;
        };
      };
    })

pub returns-in-Err-clause-stands : goal.returns-in-Err-clause-stands
returns-in-Err-clause-stands g c =
    unsettled_era ℕ (g.C.Clients.meaning c.args.clients.now) c.in-Err.fault c.args.aside.now
    c.args.store.now c.settle.new.store (g.H.Disk.tells c.args.host.now)
    (g.H.Disk.tells c.settle.new.host) c.in-Err.ensures.settles c.in-Err.ensures.stands

pub returns-in-Err-clause-did : goal.returns-in-Err-clause-did
returns-in-Err-clause-did g c = inr c.in-Err.ensures.settles
