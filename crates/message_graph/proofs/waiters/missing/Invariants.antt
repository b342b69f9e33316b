use Rattle.std.proofs.Common.{◌≡◌, ◌≤◌, drop}
use Rattle.message_graph.specs.Nodes.{node_named, with_names}
use Rattle.message_graph.specs.Waits.{missing}
use Rattle.message_graph.proofs.Missing.{raised}
use Rattle.message_graph.proofs.waiters.missing.Given as goal

abbrev pub invariant-loop-name : goal.invariant-loop-name
invariant-loop-name l = record {
  low : l.count ≤ l.name-index;
  rest : raised l.count (missing (node_named (with_names l.index.numbers.names l.nodes)) l.group (drop l.name-index l.names)) ≡ missing (node_named (with_names l.index.numbers.names l.nodes)) l.group l.names;
}
