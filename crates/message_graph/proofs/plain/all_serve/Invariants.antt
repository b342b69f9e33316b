use Rattle.std.proofs.Common.{◌≡◌, drop}
use Rattle.std.specs.List.{list_all}
use Rattle.message_graph.specs.Nodes.{node_named, serves}
use Rattle.message_graph.proofs.plain.all_serve.Given as goal

abbrev pub invariant-loop-name : goal.invariant-loop-name
invariant-loop-name l = list_all (λ name. serves l.group (node_named l.nodes name)) (drop l.name-index l.names) ≡ list_all (λ name. serves l.group (node_named l.nodes name)) l.names
