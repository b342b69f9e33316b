use Rattle.std.proofs.Common.{◌≡◌, ◌+◌, ◌≤◌, ℕ, List, ◌++◌, map, take}
use Rattle.message_graph.specs.Links.{holder_of}
use Rattle.message_graph.proofs.waiters.enlist.Given as goal

abbrev pub invariant-loop-name : goal.invariant-loop-name
invariant-loop-name l = record {
  holders : (other : List ℕ) → holder_of l.index other ≡ holder_of l.fn.index other;
  edges : l.index.edges ≡ l.fn.index.edges ++ map (λ name. (name, l.waiter)) (take l.name-index l.names);
  numbers : l.index.numbers ≡ l.fn.index.numbers;
  room : l.fn.index.room ≤ l.index.room + l.name-index;
  edge_room : l.fn.index.edge_room ≤ l.index.edge_room + l.name-index;
}
