use Rattle.std.proofs.Common.{◌≡◌, ◌-◌, ◌^◌, ◌<◌}
use Rattle.due_tree.proofs.cells.size_for.Given as goal

abbrev pub invariant-loop-leaves : goal.invariant-loop-leaves
invariant-loop-leaves l = record {
  power : l.leaves ≡ 2 ^ l.height;
  small : l.leaves < 2 ^ 59;
  low : l.height < l.leaves;
}

abbrev pub decreases-loop-leaves : goal.decreases-loop-leaves
decreases-loop-leaves l = l.places - l.leaves
