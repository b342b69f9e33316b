use Rattle.std.proofs.Common.{◌≡◌, ◌<◌, ◌≤◌, ℕ, length}
use Rattle.retry_table.specs.Queues.{AreClasses, class_at}
use Rattle.retry_table.proofs.classes.Classes.reserve.Given as goal

abbrev pub invariant-loop-tries : goal.invariant-loop-tries
invariant-loop-tries l = record {
  kept : AreClasses l.rows l.self;
  many : length l.self.trees.items ≡ length l.initial.self.trees.items;
  room : (tries : ℕ) → tries < l.tries → l.places ≤ length (class_at l.self.trees.items tries);
}
