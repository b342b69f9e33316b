use Rattle.std.proofs.Common.{◌≡◌, ◌<◌, ℕ, List, Option, None, Some, IfSome, length, sym, subst, arith}
use Rattle.std.specs.Option.{option_map}
use Rattle.sync_rules.specs.Clients.{Meaning}
use Rattle.sync_rules.specs.Steps.{next}
use Rattle.message_graph.specs.declared.nodes.Step.{Step}
use Rattle.message_graph.specs.declared.nodes.Node.{Node}
use Rattle.message_graph.specs.Nodes as nodes
use Rattle.message_graph.specs.Nodes.{step_number}
use Rattle.journal_state.specs.Stepping.{entry_of}
use Rattle.journal_state.specs.Whole.{StateValue, KnowsJudgements, id_at}
use Rattle.journal_state.specs.Inside.{parts}
use Rattle.journal_state.proofs.Next.{found_next, many_nodes, next_within}
use Rattle.journal_state.proofs.state.State.open_step.Goals as goal

within_all : (ns : List Node) (bound : ℕ) → length ns ≡ bound → (o : Option Step)
    → o ≡ nodes.next_step ns → IfSome o (λ s. step_number s < bound)
within_all ns bound many None is = tt
within_all ns bound many (Some s) is = let below : step_number s < length ns = next_within ns s (sym is) in omega (arith, below, many)

pub returns-clause-next : goal.returns-clause-next
returns-clause-next c =
    subst (λ (v : StateValue). (clients : Meaning) → KnowsJudgements clients v → option_map (entry_of (id_at v.facts.held)) c.next.result ≡ next clients v.facts) c.self.view_is
    (λ clients k. found_next clients (parts c.self.inside) c.self.invariant.state k c.next.result c.next.ensures)

pub returns-clause-within : goal.returns-clause-within
returns-clause-within c =
    subst (λ (v : StateValue). IfSome c.next.result (λ s. step_number s < length v.facts.held)) c.self.view_is
    (within_all c.self.inside.graph.nodes (length c.self.inside.messages.held) (many_nodes (parts c.self.inside) c.self.invariant.state) c.next.result c.next.ensures)
