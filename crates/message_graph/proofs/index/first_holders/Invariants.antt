use Rattle.std.proofs.Common.{◌≡◌, ◌-◌, length, drop}
use Rattle.message_graph.proofs.Firsts.{AreHolders}
use Rattle.message_graph.proofs.index.first_holders.Given as goal

abbrev pub invariant-edges : goal.invariant-edges
invariant-edges l = record {
  many : length l.firsts.items ≡ l.nodes;
  each : AreHolders l.slots (drop (l.count - l.behind) l.edges) l.nodes l.firsts.items;
}
