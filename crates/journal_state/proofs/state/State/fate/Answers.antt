use Rattle.std.proofs.Common.{◌≡◌, ◌<◌, Some, length, slice_get, sym, ap, subst, ◌∙◌}
use Rattle.std.specs.Option.{option_map}
use Rattle.sync_rules.specs.Facts.{Held}
use Rattle.sync_rules.specs.Steps.{fate_held}
use Rattle.journal_state.specs.Whole.{StateValue}
use Rattle.journal_state.specs.Inside.{parts}
use Rattle.journal_state.proofs.Fated.{fate_found}
use Rattle.journal_state.proofs.state.State.fate.Goals as goal

pub returns : goal.returns
returns c =
    let below : c.args.n < length c.self.inside.messages.held = subst (λ (v : StateValue). c.args.n < length v.facts.held) (sym c.self.view_is) c.requires in
    subst (λ (v : StateValue). option_map (λ (h : Held). fate_held v.facts h.id) (slice_get v.facts.held c.args.n) ≡ Some c.fate_as.result) c.self.view_is
    (fate_found (parts c.self.inside) c.self.invariant.state c.args.n below c.fate.result c.fate.ensures ∙ ap Some (sym c.fate_as.ensures))
