use Rattle.std.proofs.Common.{◌≡◌, ◌++◌, length}
use Rattle.world_links.specs.Flights.{whole_records}
use Rattle.world_links.proofs.flight.Flight.send.Given as goal

-- what is left of the bytes is yet to be sent
abbrev pub invariant-records : goal.invariant-records
invariant-records l = l.self ++ whole_records l.rest ≡ l.initial.self
    ++ whole_records l.initial.rest

abbrev pub decreases-records : goal.decreases-records
decreases-records l = length l.rest
