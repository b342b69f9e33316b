use Rattle.std.proofs.Common.{sym}
use Rattle.resident.proofs.EraLemmas.{sends}
use Rattle.resident.proofs.resident.Resident.send_link.Goals as goal

pub returns-clause-sent : goal.returns-clause-sent
returns-clause-sent g c = λ still_open stands.
    let e = c.behind.ensures in
    sends g.H.Disk.tells (g.C.Clients.meaning c.args.clients.now) c.args.link c.args.self.now
    c.behind.new.self c.send_on-sent.new.store c.in-Some.aside c.send_on-sent.new.aside
    c.args.host.now c.send_on-sent.new.host c.send_on-sent.result c.behind.result
    (sym c.in-Some.ensures.value) e.value e.store e.goes_on c.send_on-sent.ensures.did
