use Rattle.std.proofs.Common.{ℕ, ◌<◌, Option, Some, length, sym, ap, subst, ◌∙◌}
use Rattle.std.specs.Option.{option_map}
use Rattle.sync_rules.specs.Sessions.{sooner_of}
use Rattle.journal_state.specs.Whole.{StateValue, id_at, shared_of}
use Rattle.journal_state.specs.Inside.{parts}
use Rattle.journal_state.proofs.Listed.{id_shown, below_is}
use Rattle.journal_state.proofs.Seen.{sooner_found, sooner_below}
use Rattle.journal_state.proofs.view.StateView.next_sooner.Goals as goal

pub returns-in_err-number : goal.returns-in_err-number
returns-in_err-number c =
    c.from_residual.ensures
    ∙ (ap (λ (o : Option ℕ). option_map (id_at c.self.inside.messages.held) o) c.in_err-number.ensures
    ∙ (sooner_found (parts c.self.inside) c.self.invariant.state c.args.contact c.args.latency c.args.now c.ranges.contact.fits
    ∙ ap (λ (v : StateValue). sooner_of v.facts (shared_of v) c.args.contact c.args.latency c.args.now) c.self.view_is))

pub id_at-requires : goal.id_at-requires
id_at-requires c =
    subst (λ (v : StateValue). c.in_ok-number.number < length v.facts.held) c.self.view_is
    (below_is c.in_ok-number.number (length c.self.inside.messages.held)
    (sooner_below (parts c.self.inside) c.self.invariant.state c.args.contact c.args.latency c.args.now c.in_ok-number.number (sym c.in_ok-number.ensures)))

pub returns : goal.returns
returns c =
    ap Some (sym (id_shown c.args.self.now.facts.held c.in_ok-number.number c.id_at.result c.id_at.ensures))
    ∙ (ap (λ (v : StateValue). Some (id_at v.facts.held c.in_ok-number.number)) (sym c.self.view_is)
    ∙ (ap (λ (o : Option ℕ). option_map (id_at c.self.inside.messages.held) o) c.in_ok-number.ensures
    ∙ (sooner_found (parts c.self.inside) c.self.invariant.state c.args.contact c.args.latency c.args.now c.ranges.contact.fits
    ∙ ap (λ (v : StateValue). sooner_of v.facts (shared_of v) c.args.contact c.args.latency c.args.now) c.self.view_is)))
