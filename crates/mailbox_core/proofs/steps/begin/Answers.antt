use Rattle.std.proofs.Common.{◌≡◌, Some, None, Ok, Err, is_some, sym, ap, ◌∙◌}
use Rattle.std.proofs.lemmas.Bool.{false≢true}
use Rattle.sync_rules.specs.Facts.{session_at}
use Rattle.sync_store.specs.declared.fault.StoreFault.TheVariants as fault
use Rattle.mailbox_core.specs.Steps.{HasBegunSession}
use Rattle.mailbox_core.proofs.BeginSteps.{begun_able, begun_found, begun_starved, has_begun}
use Rattle.mailbox_core.proofs.BeginSteps.{its_joined, not_begun}
use Rattle.mailbox_core.proofs.Joined.{on_error}
use Rattle.mailbox_core.proofs.steps.begin.Goals as goal

pub returns-in_err-batch-clause-begun : goal.returns-in_err-batch-clause-begun
returns-in_err-batch-clause-begun g c =
    let clients = g.C.Clients.meaning c.args.clients.now in
    let s = c.args.store.now in
    let o = g.D.Disk.tells c.args.disk.now in
    on_error c.from_residual.result fault.Memory
    (λ r. HasBegunSession clients c.args.contact c.args.latency s s r o o) c.from_residual.ensures.1
    (begun_starved c.images_stand.ensures clients c.args.contact c.args.latency s o
    c.requires.gathering.still_open)

pub returns-in_err-gather_known-clause-begun : goal.returns-in_err-gather_known-clause-begun
returns-in_err-gather_known-clause-begun g c =
    let clients = g.C.Clients.meaning c.args.clients.now in
    let s = c.args.store.now in
    let s' = c.gather_known.new.self in
    let o = g.D.Disk.tells c.args.disk.now in
    let o' = g.D.Disk.tells c.gather_known.new.disk in
    let e = c.in_err-gather_known.field-0.0 in
    on_error c.from_residual-in_err-gather_known.result e
    (λ r. HasBegunSession clients c.args.contact c.args.latency s s' r o o')
    c.from_residual-in_err-gather_known.ensures.1
    (not_begun clients c.args.contact c.args.latency s s' o o' e c.gather_known.ensures.run
    (its_joined clients c.args.contact c.args.latency s s' o o' c.sessions-number.result
    c.in_ok-batch.batch (Err e) c.in_ok-batch.ensures c.sessions-number.ensures
    c.in_err-gather_known.ensures.joins))

pub returns-clause-begun : goal.returns-clause-begun
returns-clause-begun g c =
    let clients = g.C.Clients.meaning c.args.clients.now in
    let s = c.args.store.now in
    let s' = c.gather_known.new.self in
    let o = g.D.Disk.tells c.args.disk.now in
    let o' = g.D.Disk.tells c.gather_known.new.disk in
    let found : session_at s'.state.facts.sessions s.state.facts.begun ≡ Some c.in-Some.begun =
    sym (sym c.in-Some.is
    ∙ (c.session.ensures.value
    ∙ (λ i. session_at (c.state.ensures i).facts.sessions (c.sessions-number.ensures i)))) in
    has_begun clients c.args.contact c.args.latency s s' o o' tt c.in-Some.begun
    c.gather_known.ensures.run
    (its_joined clients c.args.contact c.args.latency s s' o o' c.sessions-number.result
    c.in_ok-batch.batch (Ok tt) c.in_ok-batch.ensures c.sessions-number.ensures
    c.in_ok-gather_known.ensures.joins) found

pub returns-clause-opened : goal.returns-clause-opened
returns-clause-opened g c =
    let clients = g.C.Clients.meaning c.args.clients.now in
    let s = c.args.store.now in
    let s' = c.gather_known.new.self in
    let o = g.D.Disk.tells c.args.disk.now in
    let o' = g.D.Disk.tells c.gather_known.new.disk in
    let found : session_at s'.state.facts.sessions s.state.facts.begun ≡ Some c.in-Some.begun =
    sym (sym c.in-Some.is
    ∙ (c.session.ensures.value
    ∙ (λ i. session_at (c.state.ensures i).facts.sessions (c.sessions-number.ensures i)))) in
    begun_able clients c.args.contact c.args.latency s s' o o' tt c.in-Some.begun
    c.requires.settled
    (its_joined clients c.args.contact c.args.latency s s' o o' c.sessions-number.result
    c.in_ok-batch.batch (Ok tt) c.in_ok-batch.ensures c.sessions-number.ensures
    c.in_ok-gather_known.ensures.joins) found c.gather_known.ensures.gathering

pub unreachable-requires : goal.unreachable-requires
unreachable-requires g c =
    let clients = g.C.Clients.meaning c.args.clients.now in
    let s = c.args.store.now in
    let s' = c.gather_known.new.self in
    let o = g.D.Disk.tells c.args.disk.now in
    let o' = g.D.Disk.tells c.gather_known.new.disk in
    let found = begun_found clients c.args.contact c.args.latency s s' o o' tt
    (its_joined clients c.args.contact c.args.latency s s' o o' c.sessions-number.result
    c.in_ok-batch.batch (Ok tt) c.in_ok-batch.ensures c.sessions-number.ensures
    c.in_ok-gather_known.ensures.joins) in
    let none : None ≡ session_at s'.state.facts.sessions s.state.facts.begun =
    sym c.in-None.is
    ∙ (c.session.ensures.value
    ∙ (λ i. session_at (c.state.ensures i).facts.sessions (c.sessions-number.ensures i))) in
    false≢true (ap is_some none ∙ found)
