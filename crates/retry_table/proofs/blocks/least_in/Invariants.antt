use Rattle.std.proofs.Common.{◌≡◌, ◌+◌, ◌-◌, ◌*◌, ◌≤◌, length}
use Rattle.retry_table.specs.Queues.{least_from}
use Rattle.retry_table.proofs.blocks.least_in.Given as goal

abbrev pub invariant-loop-n : goal.invariant-loop-n
invariant-loop-n l = record {
  low : 64 * l.block ≤ l.n;
  high : l.n ≤ 64 * l.block + 64;
  within : l.n ≤ length l.rows;
  least : l.least ≡ least_from l.times l.rows l.n (64 * l.block + 64 - l.n);
}

abbrev pub decreases-loop-n : goal.decreases-loop-n
decreases-loop-n l = l.n
