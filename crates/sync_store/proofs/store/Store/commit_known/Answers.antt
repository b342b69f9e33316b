use Rattle.std.proofs.Common.{◌≡◌, false, refl, inl, sym, ap, ◌∙◌, subst}
use Rattle.outside.proofs.CallCounts.{most_none}
use Rattle.sync_store.specs.Commits.{needed}
use Rattle.sync_store.specs.Moments.{WithAtMost, journal_with}
use Rattle.sync_store.specs.Store.{StoreValue, IsStore}
use Rattle.sync_store.proofs.FitSteps.{leads_none, fits_same}
use Rattle.sync_store.proofs.Growth.{fits_by, may_add, no_calls, ready_same, with_none}
use Rattle.sync_store.proofs.MigrateSteps.{same_self}
use Rattle.sync_store.proofs.SettleSteps.{appends_same}
use Rattle.sync_store.proofs.store.Store.commit_known.Goals as goal

pub returns-then-is_full-clause-extends : goal.returns-then-is_full-clause-extends
returns-then-is_full-clause-extends g c still two told j fits =
    let clients = g.C.Clients.meaning c.args.clients.now in
    let s = c.args.self.now in
    leads_none c.cite_laws.ensures.stand clients (WithAtMost j c.args.batch) (λ whole. whole ≡ j) s
    s j two (g.D.Disk.tells c.args.disk.now) fits
    (subst IsStore c.self.view_is c.self.invariant).roomy told
    (same_self s) (inl refl)
    refl

pub returns-in_err-framed-clause-extends : goal.returns-in_err-framed-clause-extends
returns-in_err-framed-clause-extends g c still two told j fits =
    let clients = g.C.Clients.meaning c.args.clients.now in
    let s = c.args.self.now in
    leads_none c.cite_laws.ensures.stand clients (WithAtMost j c.args.batch) (λ whole.
    whole ≡ journal_with j c.args.batch c.from_residual.result) s s j two
    (g.D.Disk.tells c.args.disk.now) fits
    (subst IsStore c.self.view_is c.self.invariant).roomy told
    (same_self s) (inl refl)
    (with_none j c.args.batch c.from_residual.result c.from_residual.ensures.0)

pub returns-in_err-reserve-clause-extends : goal.returns-in_err-reserve-clause-extends
returns-in_err-reserve-clause-extends g c still two told j fits =
    let clients = g.C.Clients.meaning c.args.clients.now in
    let s = c.args.self.now in
    leads_none c.cite_laws.ensures.stand clients (WithAtMost j c.args.batch) (λ whole.
    whole ≡ journal_with j c.args.batch c.from_residual-in_err-reserve.result) s _ j two
    (g.D.Disk.tells c.args.disk.now) fits
    (subst IsStore c.self.view_is c.self.invariant).roomy told
    (record {
      facts = c.reserve.ensures.facts ∙ ap (λ (v : StoreValue). v.state.facts) c.self.view_is;
      file = ap (λ (v : StoreValue). v.file) c.self.view_is;
      format = ap (λ (v : StoreValue). v.format) c.self.view_is;
      generation = ap (λ (v : StoreValue). v.generation) c.self.view_is;
      end = ap (λ (v : StoreValue). v.end) c.self.view_is;
      waiting = ap (λ (v : StoreValue). v.waiting) c.self.view_is;
    }) (inl refl) (with_none j c.args.batch c.from_residual-in_err-reserve.result
    c.from_residual-in_err-reserve.ensures.0)

pub append-requires-clause-may : goal.append-requires-clause-may
append-requires-clause-may g c =
    let clients = g.C.Clients.meaning c.args.clients.now in
    let s = c.args.self.now in
    let still : s.closed ≡ false = ap (λ (v : StoreValue). v.closed) (sym c.self.view_is)
    ∙ c.if-self.false in
    may_add c.cite_laws.ensures clients s _ c.args.batch c.as_slice.result.now
    (subst IsStore c.self.view_is c.self.invariant)
    (c.reserve.ensures.facts ∙ ap (λ (v : StoreValue). v.state.facts) c.self.view_is)
    (ap (λ (v : StoreValue). v.end) c.self.view_is)
    (ap (λ (v : StoreValue). v.format) c.self.view_is) (c.requires.allowed still)
    c.requires.plain c.in_ok-framed.ensures.within
    (c.as_slice.ensures.value ∙ c.in_ok-framed.ensures.framed)
    (fits_by c.is_full.result s.limit (needed s c.args.batch) c.is_full.ensures
    c.if-is_full.false)

pub returns-in_err-reserve-clause-ready : goal.returns-in_err-reserve-clause-ready
returns-in_err-reserve-clause-ready g c still =
    let s = c.args.self.now in
    let before : s.closed ≡ false = ap (λ (v : StoreValue). v.closed) (sym c.self.view_is)
    ∙ c.if-self.false in
    ready_same (g.C.Clients.meaning c.args.clients.now) s _ (g.D.Disk.tells c.args.disk.now).files
    (c.requires.ready before)
    (record {
      facts = c.reserve.ensures.facts ∙ ap (λ (v : StoreValue). v.state.facts) c.self.view_is;
      file = ap (λ (v : StoreValue). v.file) c.self.view_is;
      format = ap (λ (v : StoreValue). v.format) c.self.view_is;
      generation = ap (λ (v : StoreValue). v.generation) c.self.view_is;
      end = ap (λ (v : StoreValue). v.end) c.self.view_is;
      waiting = ap (λ (v : StoreValue). v.waiting) c.self.view_is;
    }) (c.reserve.ensures.answers ∙ ap (λ (v : StoreValue). v.state.answers) c.self.view_is) still

pub append-requires-clause-ready : goal.append-requires-clause-ready
append-requires-clause-ready g c =
    let s = c.args.self.now in
    let before : s.closed ≡ false = ap (λ (v : StoreValue). v.closed) (sym c.self.view_is)
    ∙ c.if-self.false in
    ready_same (g.C.Clients.meaning c.args.clients.now) s _ (g.D.Disk.tells c.args.disk.now).files
    (c.requires.ready before)
    (record {
      facts = c.reserve.ensures.facts ∙ ap (λ (v : StoreValue). v.state.facts) c.self.view_is;
      file = ap (λ (v : StoreValue). v.file) c.self.view_is;
      format = ap (λ (v : StoreValue). v.format) c.self.view_is;
      generation = ap (λ (v : StoreValue). v.generation) c.self.view_is;
      end = ap (λ (v : StoreValue). v.end) c.self.view_is;
      waiting = ap (λ (v : StoreValue). v.waiting) c.self.view_is;
    }) (c.reserve.ensures.answers ∙ ap (λ (v : StoreValue). v.state.answers) c.self.view_is)
    c.if-self.false

pub returns-clause-extends : goal.returns-clause-extends
returns-clause-extends g c still two told j fits =
    let clients = g.C.Clients.meaning c.args.clients.now in
    let s = c.args.self.now in
    c.append.ensures.extends two told j
    (fits_same clients s _ j two fits (record {
      facts = c.reserve.ensures.facts ∙ ap (λ (v : StoreValue). v.state.facts) c.self.view_is;
      file = ap (λ (v : StoreValue). v.file) c.self.view_is;
      format = ap (λ (v : StoreValue). v.format) c.self.view_is;
      generation = ap (λ (v : StoreValue). v.generation) c.self.view_is;
      end = ap (λ (v : StoreValue). v.end) c.self.view_is;
      waiting = ap (λ (v : StoreValue). v.waiting) c.self.view_is;
    }))

pub returns-then-self-clause-calls : goal.returns-then-self-clause-calls
returns-then-self-clause-calls g c =
    record { just = tt; most = most_none 4 (g.D.Disk.tells c.args.disk.now) }

pub returns-then-is_full-clause-calls : goal.returns-then-is_full-clause-calls
returns-then-is_full-clause-calls g c =
    record { just = tt; most = most_none 4 (g.D.Disk.tells c.args.disk.now) }

pub returns-in_err-framed-clause-calls : goal.returns-in_err-framed-clause-calls
returns-in_err-framed-clause-calls g c =
    no_calls c.from_residual.result (g.D.Disk.tells c.args.disk.now) c.from_residual.ensures.0

pub returns-in_err-reserve-clause-calls : goal.returns-in_err-reserve-clause-calls
returns-in_err-reserve-clause-calls g c =
    no_calls c.from_residual-in_err-reserve.result (g.D.Disk.tells c.args.disk.now)
    c.from_residual-in_err-reserve.ensures.0

pub frame-requires-clause-allowed : goal.frame-requires-clause-allowed
frame-requires-clause-allowed g c =
    let still : c.args.self.now.closed ≡ false =
    ap (λ (v : StoreValue). v.closed) (sym c.self.view_is) ∙ c.if-self.false in
    (g.C.Clients.meaning c.args.clients.now, c.requires.allowed still)

pub returns-then-self-clause-appends : goal.returns-then-self-clause-appends
returns-then-self-clause-appends g c =
    appends_same c.args.self.now c.args.self.now (g.D.Disk.tells c.args.disk.now) refl refl

pub returns-then-is_full-clause-appends : goal.returns-then-is_full-clause-appends
returns-then-is_full-clause-appends g c =
    appends_same c.args.self.now c.args.self.now (g.D.Disk.tells c.args.disk.now) refl refl

pub returns-in_err-framed-clause-appends : goal.returns-in_err-framed-clause-appends
returns-in_err-framed-clause-appends g c =
    appends_same c.args.self.now c.args.self.now (g.D.Disk.tells c.args.disk.now) refl refl

pub returns-in_err-reserve-clause-appends : goal.returns-in_err-reserve-clause-appends
returns-in_err-reserve-clause-appends g c =
    appends_same c.args.self.now _ (g.D.Disk.tells c.args.disk.now)
    (ap (λ (v : StoreValue). v.end) c.self.view_is) (ap (λ (v : StoreValue). v.closed) c.self.view_is)
