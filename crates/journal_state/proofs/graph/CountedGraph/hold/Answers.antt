use Rattle.std.proofs.Common.{◌≡◌, ◌+◌, ◌*◌, ◌-◌, ◌^◌, ◌<◌, ◌≤◌, length, ap, subst, sym, ◌∙◌, arith}
use Rattle.message_graph.specs.Nodes as nodes
use Rattle.journal_state.specs.Left.{left_in, left_at}
use Rattle.journal_state.proofs.Sums.{sum_more, left_most}
use Rattle.journal_state.proofs.graph.CountedGraph.hold.Goals as goal

pub invariant_of-self : goal.invariant_of-self
invariant_of-self c =
    let new : left_in c.hold-number.new.self.nodes ≡ left_in c.self.inside.graph.nodes + 2 =
    ap (λ (g : nodes.Shown). left_in g.nodes) c.hold-number.ensures.nodes
    ∙ sum_more left_at c.self.inside.graph.nodes (nodes.fresh_node c.args.name c.args.group) in
    let most : left_in c.self.inside.graph.nodes ≤ 2 * length c.self.inside.graph.nodes = left_most c.self.inside.graph.nodes in
    let few : length c.self.inside.graph.nodes < 2 ^ 32 - 1 = subst (λ (g : nodes.Shown). length g.nodes < 2 ^ 32 - 1) (sym c.self.view_is) c.requires.few in
    (omega (arith, new, c.self.invariant.0), omega (arith, most, few, c.self.invariant.0))
