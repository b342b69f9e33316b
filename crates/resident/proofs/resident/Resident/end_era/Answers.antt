use Rattle.resident.proofs.StayLemmas.{ready_over}
use Rattle.resident.proofs.resident.Resident.end_era.Goals as goal

pub returns-clause-may : goal.returns-clause-may
returns-clause-may g c clients may = λ still_open. record {
  ready =
      ready_over clients c.args.self.now.store (g.H.Disk.tells c.args.host.now)
      (g.H.Disk.tells c.renew.new.self) c.renew.ensures.call.same_files (may still_open).ready;
  era = tt;
}
