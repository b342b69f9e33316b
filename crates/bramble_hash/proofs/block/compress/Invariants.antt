use Rattle.std.proofs.Common.{◌≡◌}
use Rattle.bramble_hash.specs.Blake2b.{rounds}
use Rattle.bramble_hash.proofs.block.compress.Given as goal

abbrev pub invariant-rounds : goal.invariant-rounds
invariant-rounds l = l.v ≡ rounds l.initial.v l.m l.r
