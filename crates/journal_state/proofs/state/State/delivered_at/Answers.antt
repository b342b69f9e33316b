use Rattle.std.proofs.Common.{◌≡◌, ◌<◌, Some, length, slice_get, sym, subst, arith}
use Rattle.std.proofs.lemmas.List.{length-map}
use Rattle.sync_rules.specs.Facts.{Id}
use Rattle.sync_rules.specs.Views.{IsPlace}
use Rattle.journal_state.specs.Parts.{facts_of, name_at}
use Rattle.journal_state.specs.Whole.{StateValue}
use Rattle.journal_state.specs.Inside.{parts}
use Rattle.journal_state.proofs.Fated.{place_there}
use Rattle.journal_state.proofs.state.State.delivered_at.Goals as goal

pub returns-clause-place : goal.returns-clause-place
returns-clause-place c =
    let known : c.args.k < length (facts_of (parts c.self.inside)).delivered = subst (λ (v : StateValue). c.args.k < length v.facts.delivered) (sym c.self.view_is) c.requires in
    let below : c.args.k < length c.self.inside.delivered.items = omega (arith, known, length-map c.self.inside.delivered.items (name_at c.self.inside.graph.nodes)) in
    subst (λ (v : StateValue). (id : Id) → slice_get v.facts.delivered c.args.k ≡ Some id → IsPlace v.facts.held id c.index.result.now) c.self.view_is
    (place_there (parts c.self.inside) c.self.invariant.state c.args.k c.index.result.now below c.index.ensures)
