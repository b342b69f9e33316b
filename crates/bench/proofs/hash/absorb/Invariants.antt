use Rattle.std.proofs.Common.{◌≤◌, ◌*◌}
use Rattle.bench.proofs.hash.absorb.Given as goal

abbrev pub invariant-reads : goal.invariant-reads
invariant-reads g l = l.hasher.count ≤ 65536 * l.counter
