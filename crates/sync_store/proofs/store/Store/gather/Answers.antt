use Rattle.std.proofs.Common.{◌≡◌, false, sym, ap, ◌∙◌, subst}
use Rattle.sync_store.specs.Commits.{needed}
use Rattle.sync_store.specs.Store.{StoreValue, IsStore}
use Rattle.sync_store.proofs.Growth.{fits_by, may_add}
use Rattle.sync_store.proofs.store.Store.gather.Goals as goal

pub add-requires-clause-may : goal.add-requires-clause-may
add-requires-clause-may g c =
    let clients = g.C.Clients.meaning c.args.clients.now in
    let s = c.args.self.now in
    let still : s.closed ≡ false = ap (λ (v : StoreValue). v.closed) (sym c.self.view_is)
    ∙ c.if-self.false in
    may_add c.cite_laws.ensures clients s _ c.args.batch c.as_slice.result.now
    (subst IsStore c.self.view_is c.self.invariant)
    (c.reserve.ensures.facts ∙ ap (λ (v : StoreValue). v.state.facts) c.self.view_is)
    (ap (λ (v : StoreValue). v.end) c.self.view_is)
    (ap (λ (v : StoreValue). v.format) c.self.view_is) (c.requires.allowed still)
    c.requires.plain c.in_ok-framed.ensures.within
    (c.as_slice.ensures.value ∙ c.in_ok-framed.ensures.framed)
    (fits_by c.is_full.result s.limit (needed s c.args.batch) c.is_full.ensures
    c.if-is_full.false)

pub frame-requires-clause-allowed : goal.frame-requires-clause-allowed
frame-requires-clause-allowed g c =
    let still : c.args.self.now.closed ≡ false =
    ap (λ (v : StoreValue). v.closed) (sym c.self.view_is) ∙ c.if-self.false in
    (g.C.Clients.meaning c.args.clients.now, c.requires.allowed still)
