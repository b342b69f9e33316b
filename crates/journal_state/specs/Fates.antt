-- A message's state as the waiting graph says it.
use Rattle.sync_rules.specs.declared.states.Fate.{Fate}
use Rattle.sync_rules.specs.declared.states.Fate.TheVariants as fate_kind
use Rattle.message_graph.specs.declared.nodes.Fate as graph_fate
use Rattle.message_graph.specs.declared.nodes.Fate.TheVariants as node_kind

abbrev pub fate_as : graph_fate.Fate → Fate
fate_as node_kind.Unknown = fate_kind.Unknown
fate_as node_kind.Pending = fate_kind.Pending
fate_as node_kind.Invalid = fate_kind.Invalid
fate_as node_kind.Delivered = fate_kind.Delivered
