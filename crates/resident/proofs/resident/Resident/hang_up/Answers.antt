use Rattle.std.proofs.Common.{ap}
use Rattle.outside.specs.Links.{Links}
use Rattle.resident.proofs.StayLemmas.{may_stay_over}
use Rattle.resident.proofs.resident.Resident.hang_up.Goals as goal

pub hear_link-requires : goal.hear_link-requires
hear_link-requires g c =
    may_stay_over (g.C.Clients.meaning c.args.clients.now) c.args.self.now
    (g.H.Disk.tells c.args.host.now) (g.H.Disk.tells c.hang_up.new.self)
    c.hang_up.ensures.call.same_files (ap (λ (l : Links). l.dialled) c.hang_up.ensures.links)
    c.requires
