use Rattle.std.proofs.Common.{◌-◌, length}
use Rattle.retry_table.specs.Queues.{AreClasses}
use Rattle.retry_table.proofs.classes.Classes.grow.Given as goal

abbrev pub invariant-loop-self : goal.invariant-loop-self
invariant-loop-self l = AreClasses l.rows l.self

abbrev pub decreases-loop-self : goal.decreases-loop-self
decreases-loop-self l = 65 - length l.self.trees.items
