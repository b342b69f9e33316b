use Rattle.std.proofs.Common.{◌≡◌, ◌≤◌, Some, slice_get, sym, ap, subst, ◌∙◌}
use Rattle.std.specs.Option.{option_map}
use Rattle.sync_rules.specs.declared.entries.Tried.{Tried}
use Rattle.sync_rules.specs.Facts.{Held, row_at}
use Rattle.retry_table.specs.Table.{tried_of}
use Rattle.journal_state.specs.Whole.{StateValue}
use Rattle.journal_state.specs.Inside.{parts}
use Rattle.journal_state.proofs.Seen.{tried_found}
use Rattle.journal_state.proofs.state.State.tried.Goals as goal

named : (c : goal.After-tried) → option_map (λ (h : Held). h.id) (slice_get c.self.inside.messages.held c.args.n) ≡ Some c.id_at.result
named c = ap (λ (v : StateValue). option_map (λ (h : Held). h.id) (slice_get v.facts.held c.args.n)) c.self.view_is ∙ c.id_at.ensures

pub returns-clause-row : goal.returns-clause-row
returns-clause-row c =
    subst (λ (v : StateValue). option_map (λ (h : Held). tried_of c.args.contact h.id (row_at v.facts.rows c.args.contact h.id)) (slice_get v.facts.held c.args.n) ≡ Some c.tried.result) c.self.view_is
    (tried_found (parts c.self.inside) c.self.invariant.state c.args.contact c.args.n c.id_at.result (named c) ∙ ap Some (sym c.tried.ensures))

pub returns-clause-few : goal.returns-clause-few
returns-clause-few c = subst (λ (t : Tried). t.tries ≤ 64) (sym c.tried.ensures) (c.self.invariant.limited c.args.contact c.args.n).few

pub returns-clause-wait : goal.returns-clause-wait
returns-clause-wait c = subst (λ (t : Tried). t.tries ≡ 0 → t.expiry ≡ 0) (sym c.tried.ensures) (c.self.invariant.limited c.args.contact c.args.n).wait
