use Rattle.std.proofs.Common.{ℕ, Option, sym, ap, subst, ◌∙◌}
use Rattle.sync_rules.specs.Views.{place_of, IsFound}
use Rattle.message_graph.specs.Nodes as nodes
use Rattle.journal_state.specs.Whole.{StateValue}
use Rattle.journal_state.proofs.Firsts.{number_same}
use Rattle.sync_rules.proofs.PlaceLaws.{place_found}
use Rattle.journal_state.proofs.view.StateView.find.Goals as goal

pub returns-clause-place : goal.returns-clause-place
returns-clause-place c =
    c.number.ensures
    ∙ (ap (nodes.node_number c.self.inside.graph.nodes) c.id.view_is
    ∙ (number_same c.self.inside.messages.held c.self.inside.graph.nodes c.self.invariant.state.named c.args.id.now
    ∙ ap (λ (v : StateValue). place_of v.facts.held c.args.id.now) c.self.view_is))

pub returns-clause-found : goal.returns-clause-found
returns-clause-found c =
    subst (λ (o : Option ℕ). IsFound c.args.self.now.facts.held c.args.id.now o) (sym (returns-clause-place c)) (place_found c.args.self.now.facts.held c.args.id.now)
