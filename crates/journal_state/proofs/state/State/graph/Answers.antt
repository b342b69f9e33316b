use Rattle.std.proofs.Common.{sym, subst}
use Rattle.message_graph.specs.Nodes as nodes
use Rattle.journal_state.specs.Lent.{StandsForNodes}
use Rattle.journal_state.specs.Whole.{StateValue, value_of}
use Rattle.journal_state.specs.Inside.{parts}
use Rattle.journal_state.proofs.Fated.{nodes_lent}
use Rattle.journal_state.proofs.state.State.graph.Goals as goal

pub returns : goal.returns
returns c =
    subst (λ (v : StateValue). StandsForNodes v c.graph.result.now.nodes) c.self.view_is
    (subst (λ (g : nodes.Shown). StandsForNodes (value_of (parts c.self.inside)) g.nodes) (sym c.graph.ensures) (nodes_lent (parts c.self.inside) c.self.invariant.state))
