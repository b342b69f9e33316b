use Rattle.std.proofs.Common.{◌≡◌, drop}
use Rattle.message_graph.specs.Nodes.{node_named}
use Rattle.message_graph.proofs.plain.node_named.Given as goal

abbrev pub invariant-loop-node : goal.invariant-loop-node
invariant-loop-node l = node_named (drop l.node-index l.nodes) l.name ≡ node_named l.nodes l.name
