use Rattle.std.proofs.Common.{◌≡◌}
use Rattle.std.specs.List.{All}
use Rattle.link_places.specs.Places.{IsPlace}
use Rattle.link_places.proofs.PlaceLemmas.{ended}
use Rattle.link_places.proofs.places.Places.end_era.Given as goal

abbrev pub invariant-loop-place : goal.invariant-loop-place
invariant-loop-place l = record {
  items : l.self-inside.places.items ≡ ended l.place l.initial.self-inside.places.items;
  full : l.self-inside.full ≡ l.initial.self-inside.full;
  each : All IsPlace l.self-inside.places.items;
}
