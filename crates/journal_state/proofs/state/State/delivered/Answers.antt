use Rattle.std.proofs.Common.{◌≡◌, length, sym, ap, ◌∙◌, arith}
use Rattle.std.proofs.lemmas.List.{length-map}
use Rattle.journal_state.specs.Parts.{name_at}
use Rattle.journal_state.specs.Whole.{StateValue}
use Rattle.journal_state.proofs.state.State.delivered.Goals as goal

pub overflow_cast-result : goal.overflow_cast-result
overflow_cast-result c =
    let s = c.self.inside in
    let many : length c.args.self.now.facts.delivered ≡ length s.delivered.items =
    ap (λ (v : StateValue). length v.facts.delivered) (sym c.self.view_is) ∙ length-map s.delivered.items (name_at s.graph.nodes) in
    let few = c.show_sound.ensures.delivered in
    let small = c.show_sound.ensures.few in
    omega (arith, many, few, small)
