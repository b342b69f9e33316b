-- The blocks before this one are made, and the others have nothing.
use Rattle.std.proofs.Common.{◌≡◌, ◌+◌, ◌*◌, ◌/◌, ◌<◌, ◌≤◌, ℕ, None, length}
use Rattle.retry_table.specs.declared.blocks.Times.TheVariants as times
use Rattle.retry_table.specs.Queues.{least_from, place_at}
use Rattle.retry_table.proofs.classes.class_of.Given as goal

abbrev pub invariant-loop-block : goal.invariant-loop-block
invariant-loop-block l = record {
  many : length l.tree ≡ length l.rows / 64 + 1;
  made : (block : ℕ) → block < l.block → place_at l.tree block ≡ least_from (times.Sooner l.tries) l.rows (64 * block) 64;
  none : (block : ℕ) → l.block ≤ block → place_at l.tree block ≡ None;
}
