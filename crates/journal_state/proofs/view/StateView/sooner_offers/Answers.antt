use Rattle.std.proofs.Common.{◌≡◌, ℕ, true, List, IfOk, length, map, nat_lt, sym, ap, subst, ◌∙◌}
use Rattle.std.specs.List.{list_all}
use Rattle.sync_rules.specs.Sessions.{sooner_offers_of}
use Rattle.sync_rules.specs.Facts.{Id}
use Rattle.retry_table.specs.Table as retry
use Rattle.retry_table.specs.Due.{sooner_offers_in}
use Rattle.journal_state.specs.Whole.{StateValue, id_at, shared_of}
use Rattle.journal_state.specs.Inside.{parts}
use Rattle.journal_state.proofs.Seen.{sooner_offers_found, sooner_offers_below}
use Rattle.journal_state.proofs.view.StateView.sooner_offers.Goals as goal

pub ids-requires : goal.ids-requires
ids-requires c =
    let numbers : c.as_slice.result.now ≡ sooner_offers_in c.args.latency c.args.now (retry.rows_of c.self.inside.retry c.args.contact) = c.as_slice.ensures.value ∙ c.in_ok-numbers.ensures in
    subst (λ (ns : List ℕ). list_all (λ n. nat_lt n (length c.args.self.now.facts.held)) ns ≡ true) (sym numbers)
    (subst (λ (v : StateValue). list_all (λ n. nat_lt n (length v.facts.held)) (sooner_offers_in c.args.latency c.args.now (retry.rows_of c.self.inside.retry c.args.contact)) ≡ true) c.self.view_is (sooner_offers_below (parts c.self.inside) c.self.invariant.state c.args.contact c.args.latency c.args.now))

pub returns : goal.returns
returns c =
    let numbers : c.as_slice.result.now ≡ sooner_offers_in c.args.latency c.args.now (retry.rows_of c.self.inside.retry c.args.contact) = c.as_slice.ensures.value ∙ c.in_ok-numbers.ensures in
    let same : map (id_at c.args.self.now.facts.held) c.as_slice.result.now ≡ (λ (v : StateValue). sooner_offers_of v.facts (shared_of v) c.args.contact c.args.latency c.args.now) c.args.self.now =
    ap (λ (ns : List ℕ). map (id_at c.args.self.now.facts.held) ns) numbers
    ∙ (ap (λ (v : StateValue). map (id_at v.facts.held) (sooner_offers_in c.args.latency c.args.now (retry.rows_of c.self.inside.retry c.args.contact))) (sym c.self.view_is)
    ∙ (sooner_offers_found (parts c.self.inside) c.self.invariant.state c.args.contact c.args.latency c.args.now c.ranges.contact.fits
    ∙ ap (λ (v : StateValue). sooner_offers_of v.facts (shared_of v) c.args.contact c.args.latency c.args.now) c.self.view_is)) in
    subst (λ (xs : List Id). IfOk c.ids.result (λ v. v.items ≡ xs)) same c.ids.ensures
