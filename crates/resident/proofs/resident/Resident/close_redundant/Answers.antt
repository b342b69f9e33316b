use Rattle.std.proofs.Common.{sym}
use Rattle.resident.proofs.EraLemmas.{stays_redundant}
use Rattle.resident.proofs.resident.Resident.close_redundant.Goals as goal

pub returns-in-Some : goal.returns-in-Some
returns-in-Some g c =
    let e = c.close_redundant.ensures in
    stays_redundant (g.C.Clients.meaning c.args.clients.now) c.args.self.now c.in-Some.aside
    c.close_redundant.new.self (g.H.Disk.tells c.args.host.now) (sym c.in-Some.ensures.value)
    e.rest e.aside e.some.same_number c.requires
