use Rattle.std.proofs.Common.{◌≡◌, length}
use Rattle.world_links.specs.Links.{given_too, with_flight}
use Rattle.world_links.proofs.link.carry_all.Given as goal

-- what is left in flight is yet to be given
abbrev pub invariant-records : goal.invariant-records
invariant-records l = record {
  from : l.from ≡ with_flight l.from.flight l.initial.from;
  to : given_too l.from.flight l.to ≡ given_too l.initial.from.flight l.initial.to;
}

abbrev pub decreases-records : goal.decreases-records
decreases-records l = length l.from.flight
