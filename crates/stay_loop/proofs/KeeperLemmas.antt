-- What calls on the lines of a host leave of the node over it.
use Rattle.std.proofs.Common.{◌≡◌, ap}
use Rattle.outside.specs.Outside.{Outside}
use Rattle.sync_rules.specs.Clients.{Meaning}
use Rattle.stay_links.specs.Lines.{TellsAsBefore}
use Rattle.resident.specs.declared.resident.Resident.{Resident}
use Rattle.resident.specs.Staying.{MayStay}
use Rattle.resident.proofs.StayLemmas.{may_stay_over}

-- the node goes on over a host that tells what it told before
pub stays_over : (clients : Meaning) (r : Resident) (o o' : Outside) → TellsAsBefore o o'
    → MayStay clients r o → MayStay clients r o'
stays_over clients r o o' tells may =
    may_stay_over clients r o o' tells.call.same_files (ap (λ l. l.dialled) tells.same_links) may
