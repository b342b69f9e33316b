use Rattle.std.proofs.Common.{◌≡◌, ℕ, true, List, IfOk, length, map, nat_lt, sym, ap, subst, ◌∙◌}
use Rattle.std.specs.List.{list_all}
use Rattle.sync_rules.specs.Sessions.{owed_to}
use Rattle.sync_rules.specs.Facts.{Id}
use Rattle.retry_table.specs.Table as retry
use Rattle.retry_table.specs.Due.{owed_in}
use Rattle.journal_state.specs.Whole.{StateValue, id_at}
use Rattle.journal_state.specs.Inside.{parts}
use Rattle.journal_state.proofs.Seen.{owed_found, owed_below}
use Rattle.journal_state.proofs.view.StateView.owed.Goals as goal

pub ids-requires : goal.ids-requires
ids-requires c =
    let numbers : c.as_slice.result.now ≡ owed_in (retry.rows_of c.self.inside.retry c.args.contact) = c.as_slice.ensures.value ∙ c.in_ok-numbers.ensures in
    subst (λ (ns : List ℕ). list_all (λ n. nat_lt n (length c.args.self.now.facts.held)) ns ≡ true) (sym numbers)
    (subst (λ (v : StateValue). list_all (λ n. nat_lt n (length v.facts.held)) (owed_in (retry.rows_of c.self.inside.retry c.args.contact)) ≡ true) c.self.view_is (owed_below (parts c.self.inside) c.self.invariant.state c.args.contact))

pub returns : goal.returns
returns c =
    let numbers : c.as_slice.result.now ≡ owed_in (retry.rows_of c.self.inside.retry c.args.contact) = c.as_slice.ensures.value ∙ c.in_ok-numbers.ensures in
    let same : map (id_at c.args.self.now.facts.held) c.as_slice.result.now ≡ (λ (v : StateValue). owed_to v.facts c.args.contact) c.args.self.now =
    ap (λ (ns : List ℕ). map (id_at c.args.self.now.facts.held) ns) numbers
    ∙ (ap (λ (v : StateValue). map (id_at v.facts.held) (owed_in (retry.rows_of c.self.inside.retry c.args.contact))) (sym c.self.view_is)
    ∙ (owed_found (parts c.self.inside) c.self.invariant.state c.args.contact
    ∙ ap (λ (v : StateValue). owed_to v.facts c.args.contact) c.self.view_is)) in
    subst (λ (xs : List Id). IfOk c.ids.result (λ v. v.items ≡ xs)) same c.ids.ensures
