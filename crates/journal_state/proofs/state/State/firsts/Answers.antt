use Rattle.std.proofs.Common.{◌≡◌, ℕ, List, Option, IfOk, length, map, ap, subst, ◌∙◌}
use Rattle.std.proofs.lemmas.List.{length-map}
use Rattle.std.proofs.lemmas.Result.{IfOk-weaker}
use Rattle.message_graph.specs.Nodes as nodes
use Rattle.message_graph.specs.Whole.{first_held}
use Rattle.journal_state.specs.Firsts.{firsts_of}
use Rattle.journal_state.specs.Inside.{parts}
use Rattle.journal_state.specs.Whole.{StateValue}
use Rattle.journal_state.proofs.Firsts.{firsts_found}
use Rattle.journal_state.proofs.Next.{many_nodes}
use Rattle.journal_state.proofs.state.State.firsts.Goals as goal

pub returns-clause-value : goal.returns-clause-value
returns-clause-value c =
    let same : map (first_held c.graph.result.now.nodes) c.graph.result.now.nodes ≡ firsts_of c.args.self.now =
    ap (λ (g : nodes.Shown). map (first_held g.nodes) g.nodes) c.graph.ensures ∙ firsts_found (parts c.self.inside) c.self.invariant.state ∙ ap firsts_of c.self.view_is in
    subst (λ (xs : List (Option ℕ)). IfOk c.firsts.result (λ v. v.items ≡ xs)) same c.firsts.ensures

pub returns-clause-many : goal.returns-clause-many
returns-clause-many c =
    let ns = c.graph.result.now.nodes in
    let many : length ns ≡ length c.args.self.now.facts.held =
    ap (λ (g : nodes.Shown). length g.nodes) c.graph.ensures ∙ many_nodes (parts c.self.inside) c.self.invariant.state
    ∙ ap (λ (v : StateValue). length v.facts.held) c.self.view_is in
    IfOk-weaker c.firsts.result _ _ (λ firsts are. ap length are ∙ length-map ns (first_held ns) ∙ many) c.firsts.ensures
