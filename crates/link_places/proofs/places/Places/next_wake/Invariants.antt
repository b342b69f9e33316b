use Rattle.std.proofs.Common.{◌≡◌, drop}
use Rattle.link_places.specs.Waking.{next_wake, wakes}
use Rattle.link_places.proofs.places.Places.next_wake.Given as goal

abbrev pub invariant-loop-p : goal.invariant-loop-p
invariant-loop-p l = wakes l.self l.now l.wake (drop l.p-index l.p-items) ≡ next_wake l.now l.self
