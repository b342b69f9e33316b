use Rattle.std.proofs.Common.{◌<◌, slice_get, length, sym, ap, ◌∙◌, subst, arith}
use Rattle.std.specs.Option.{option_map}
use Rattle.message_graph.specs.declared.nodes.Node.{Node}
use Rattle.message_graph.specs.Nodes.{Shown, with_names}
use Rattle.message_graph.proofs.Unnamed.{group_there, within_rests}
use Rattle.message_graph.proofs.graph.Graph.group.Goals as goal

pub returns : goal.returns
returns c =
    let g = c.self.inside in
    let below : c.args.n < length (with_names g.index.numbers.names g.nodes.items) = subst (λ (s : Shown). c.args.n < length s.nodes) (sym c.self.view_is) c.requires in
    ap (λ (s : Shown). option_map (λ (node : Node). node.group) (slice_get s.nodes c.args.n)) (sym c.self.view_is)
    ∙ group_there g.index.numbers.names g.nodes.items c.args.n c.index.result.now c.self.invariant.2 (omega (arith, below, within_rests g.index.numbers.names g.nodes.items)) c.index.ensures
