use Rattle.std.proofs.Common.{◌≡◌, ◌+◌, Some, ap, subst, sym, arith}
use Rattle.message_graph.specs.Nodes as nodes
use Rattle.journal_state.specs.Left.{left_in}
use Rattle.journal_state.proofs.Lesser.{ended_less}
use Rattle.journal_state.proofs.graph.CountedGraph.apply.Goals as goal

pub overflow_sub-self : goal.overflow_sub-self
overflow_sub-self c =
    let fewer : left_in (nodes.after_step c.args.step c.self.inside.graph.nodes) + 1 ≡ left_in c.self.inside.graph.nodes =
    ended_less c.self.inside.graph.nodes c.args.step
    (subst (λ (g : nodes.Shown). nodes.next_step g.nodes ≡ Some c.args.step)
    (sym c.self.view_is) c.requires.next) c.requires.ends in
    omega (arith, fewer, c.self.invariant.0)

pub invariant_of-self : goal.invariant_of-self
invariant_of-self c =
    let fewer : left_in (nodes.after_step c.args.step c.self.inside.graph.nodes) + 1 ≡ left_in c.self.inside.graph.nodes =
    ended_less c.self.inside.graph.nodes c.args.step
    (subst (λ (g : nodes.Shown). nodes.next_step g.nodes ≡ Some c.args.step)
    (sym c.self.view_is) c.requires.next) c.requires.ends in
    let new : left_in c.apply.new.self.nodes ≡ left_in (nodes.after_step c.args.step c.self.inside.graph.nodes) = ap (λ (g : nodes.Shown). left_in g.nodes) c.apply.ensures in
    (omega (arith, fewer, new, c.self.invariant.0), omega (arith, c.self.invariant.1))
