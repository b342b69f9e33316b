use Rattle.std.proofs.Common.{sym}
use Rattle.resident.proofs.EraLemmas.{hears}
use Rattle.resident.proofs.resident.Resident.hear_link.Goals as goal

pub returns-clause-heard : goal.returns-clause-heard
returns-clause-heard g c = λ still_open stands.
    let e = c.behind.ensures in
    hears g.H.Disk.tells (g.C.Clients.meaning c.args.clients.now) c.args.link c.args.self.now
    c.behind.new.self c.hear_on-heard.new.store c.in-Some.aside c.hear_on-heard.new.aside
    c.args.host.now c.hear_on-heard.new.host c.hear_on-heard.result c.behind.result
    (sym c.in-Some.ensures.value) e.value e.store e.goes_on c.hear_on-heard.ensures.did
