use Rattle.std.proofs.Common.{◌≡◌, drop}
use Rattle.message_graph.specs.Nodes.{first_step, next_step}
use Rattle.message_graph.proofs.plain.next_in.Given as goal

abbrev pub invariant-loop-node : goal.invariant-loop-node
invariant-loop-node l = record {
  count : l.number ≡ l.node-index;
  rest : first_step l.nodes l.number (drop l.node-index l.nodes) ≡ next_step l.nodes;
}
