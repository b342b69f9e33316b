use Rattle.std.proofs.Common.{◌≡◌, ◌+◌, Some, ap, subst, sym, arith}
use Rattle.message_graph.specs.declared.nodes.Step.TheVariants as step
use Rattle.message_graph.specs.Nodes as nodes
use Rattle.journal_state.specs.Left.{left_in}
use Rattle.journal_state.proofs.Lesser.{judged_less}
use Rattle.journal_state.proofs.graph.CountedGraph.judged.Goals as goal

pub overflow_sub-self : goal.overflow_sub-self
overflow_sub-self c =
    let fewer : left_in (nodes.with_answer c.args.n c.args.answer c.self.inside.graph.nodes) + 1 ≡ left_in c.self.inside.graph.nodes =
    judged_less c.self.inside.graph.nodes c.args.n c.args.answer
    (subst (λ (g : nodes.Shown). nodes.next_step g.nodes ≡ Some (step.Judge c.args.n))
    (sym c.self.view_is) c.requires) in
    omega (arith, fewer, c.self.invariant.0)

pub invariant_of-self-2 : goal.invariant_of-self-2
invariant_of-self-2 c =
    let fewer : left_in (nodes.with_answer c.args.n c.args.answer c.self.inside.graph.nodes) + 1 ≡ left_in c.self.inside.graph.nodes =
    judged_less c.self.inside.graph.nodes c.args.n c.args.answer
    (subst (λ (g : nodes.Shown). nodes.next_step g.nodes ≡ Some (step.Judge c.args.n))
    (sym c.self.view_is) c.requires) in
    let new : left_in c.judged.new.self.nodes ≡ left_in (nodes.with_answer c.args.n c.args.answer c.self.inside.graph.nodes) =
    ap (λ (g : nodes.Shown). left_in g.nodes) c.in_ok-judged.ensures.ok in
    (omega (arith, fewer, new, c.self.invariant.0), omega (arith, c.self.invariant.1))
