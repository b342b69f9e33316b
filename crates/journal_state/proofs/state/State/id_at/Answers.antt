use Rattle.std.proofs.Common.{◌<◌, length, slice_get, sym, ap, subst, ◌∙◌, arith}
use Rattle.std.specs.Option.{option_map}
use Rattle.sync_rules.specs.Facts.{Held}
use Rattle.journal_state.specs.Whole.{StateValue}
use Rattle.journal_state.specs.Inside.{parts}
use Rattle.journal_state.proofs.Firsts.{name_same}
use Rattle.journal_state.proofs.Next.{many_nodes}
use Rattle.journal_state.proofs.state.State.id_at.Goals as goal

pub name-requires : goal.name-requires
name-requires c =
    let within : c.args.n < length c.self.inside.messages.held = subst (λ (v : StateValue). c.args.n < length v.facts.held) (sym c.self.view_is) c.requires in
    omega (arith, within, many_nodes (parts c.self.inside) c.self.invariant.state)

pub returns : goal.returns
returns c =
    ap (λ (v : StateValue). option_map (λ (h : Held). h.id) (slice_get v.facts.held c.args.n)) (sym c.self.view_is)
    ∙ (sym (name_same c.self.inside.messages.held c.self.inside.graph.nodes c.self.invariant.state.named c.args.n) ∙ c.name.ensures)
