use Rattle.std.proofs.Common.{◌≡◌, drop}
use Rattle.std.specs.List.{list_any}
use Rattle.message_graph.specs.Nodes.{node_named, fails}
use Rattle.message_graph.proofs.plain.any_fails.Given as goal

abbrev pub invariant-loop-name : goal.invariant-loop-name
invariant-loop-name l = list_any (λ name. fails l.group (node_named l.nodes name)) (drop l.name-index l.names) ≡ list_any (λ name. fails l.group (node_named l.nodes name)) l.names
