use Rattle.std.proofs.Common.{◌≡◌, ◌<◌, None, Some, length, sym, ap, subst, ◌∙◌, arith}
use Rattle.std.specs.Option.{option_map}
use Rattle.sync_rules.specs.Clients.{Meaning}
use Rattle.sync_rules.specs.Steps.{next}
use Rattle.message_graph.specs.Nodes.{step_number}
use Rattle.journal_state.specs.Telling.{told_entry, told_number}
use Rattle.journal_state.specs.Whole.{StateValue, KnowsJudgements}
use Rattle.journal_state.specs.Inside.{parts}
use Rattle.journal_state.proofs.Next.{found_next, many_nodes, next_within}
use Rattle.journal_state.proofs.Telling.{step_told, step_number_told}
use Rattle.journal_state.proofs.state.State.next_told.Goals as goal

pub returns-in_err-step-clause-step : goal.returns-in_err-step-clause-step
returns-in_err-step-clause-step c =
    subst (λ (v : StateValue). (clients : Meaning) → KnowsJudgements clients v → option_map (told_entry v.facts.held) c.from_residual.result ≡ next clients v.facts) c.self.view_is
    (λ clients k.
    ap (option_map (told_entry c.self.inside.messages.held)) c.from_residual.ensures
    ∙ found_next clients (parts c.self.inside) c.self.invariant.state k None c.in_err-step.ensures)

pub returns-clause-step : goal.returns-clause-step
returns-clause-step c =
    subst (λ (v : StateValue). (clients : Meaning) → KnowsJudgements clients v → Some (told_entry v.facts.held c.told_step.result) ≡ next clients v.facts) c.self.view_is
    (λ clients k.
    ap Some (ap (told_entry c.self.inside.messages.held) c.told_step.ensures ∙ step_told c.self.inside.messages.held c.in_ok-step.step)
    ∙ found_next clients (parts c.self.inside) c.self.invariant.state k (Some c.in_ok-step.step) c.in_ok-step.ensures)

pub returns-clause-within : goal.returns-clause-within
returns-clause-within c =
    let within : step_number c.in_ok-step.step < length c.self.inside.graph.nodes = next_within c.self.inside.graph.nodes c.in_ok-step.step (sym c.in_ok-step.ensures) in
    let held : step_number c.in_ok-step.step < length c.self.inside.messages.held = omega (arith, within, many_nodes (parts c.self.inside) c.self.invariant.state) in
    let number : told_number c.told_step.result ≡ step_number c.in_ok-step.step = ap told_number c.told_step.ensures ∙ step_number_told c.in_ok-step.step in
    subst (λ (v : StateValue). told_number c.told_step.result < length v.facts.held) c.self.view_is (omega (arith, held, number))
