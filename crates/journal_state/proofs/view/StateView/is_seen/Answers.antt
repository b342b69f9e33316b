use Rattle.std.proofs.Common.{◌<◌, length, slice_get, sym, ap, subst, ◌∙◌}
use Rattle.sync_rules.specs.Views.{is_seen_in}
use Rattle.journal_state.specs.Whole.{StateValue}
use Rattle.journal_state.specs.Inside.{parts}
use Rattle.journal_state.proofs.Seen.{seen_found}
use Rattle.journal_state.proofs.view.StateView.is_seen.Goals as goal

pub returns : goal.returns
returns c =
    let within : c.args.n < length c.self.inside.messages.held = subst (λ (v : StateValue). c.args.n < length v.facts.held) (sym c.self.view_is) c.requires in
    c.is_seen.ensures
    ∙ (seen_found (parts c.self.inside) c.self.invariant.state c.args.contact c.args.n within
    ∙ ap (λ (v : StateValue). is_seen_in v.facts c.args.contact (slice_get v.facts.held c.args.n)) c.self.view_is)
