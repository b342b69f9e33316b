use Rattle.std.proofs.Common.{ℕ, List, ◌++◌, Ok, Err, ◌∙◌, ap, sym, subst}
use Rattle.journal_state.specs.Allowing.{due_of}
use Rattle.journal_state.specs.Whole.{KnowsJudgements, StateValue}
use Rattle.sync_rules.specs.Facts.{session_at}
use Rattle.sync_rules.specs.Legal.{IsDue}
use Rattle.sync_store.specs.declared.fault.StoreFault.TheVariants as fault
use Rattle.mailbox_core.specs.Steps.{HasPut}
use Rattle.sync_course.specs.LinkTurns.{out_batch}
use Rattle.mailbox_core.proofs.Joined.{of_its_batch, on_error}
use Rattle.mailbox_core.proofs.SendSteps.{able_put, due_is, put_failed, put_made, put_none}
use Rattle.mailbox_core.proofs.SendSteps.{put_starved}
use Rattle.mailbox_core.proofs.writing.put_next.Goals as goal

pub returns-in_err-out-clause-put : goal.returns-in_err-out-clause-put
returns-in_err-out-clause-put g c =
    let clients = g.C.Clients.meaning c.args.clients.now in
    let s = c.args.store.now in
    let o = g.D.Disk.tells c.args.disk.now in
    let to = c.args.to.now.items in
    on_error c.from_residual.result fault.Memory
    (λ r. HasPut clients c.args.session.now.number c.args.now s s to to r o o)
    c.from_residual.ensures.1
    (put_starved c.images_stand.ensures clients c.args.session.now c.args.now s o c.requires.able
    to to)

pub returns-in_default-clause-put : goal.returns-in_default-clause-put
returns-in_default-clause-put g c =
    let clients = g.C.Clients.meaning c.args.clients.now in
    let n = c.args.session.now.number in
    put_none c.images_stand.ensures clients c.args.session.now c.args.now c.args.store.now
    (g.D.Disk.tells c.args.disk.now) c.requires.able c.args.to.now.items
    (sym c.in_default.is
    ∙ (c.in_ok-out.ensures.due clients
    (subst (KnowsJudgements clients) (sym c.state.ensures) c.requires.able.gathering.knows)
    ∙ ap (λ (t : StateValue). due_of clients t.facts (session_at t.facts.sessions n) c.args.now)
    c.state.ensures))

pub returns-in_err-bytes-clause-put : goal.returns-in_err-bytes-clause-put
returns-in_err-bytes-clause-put g c =
    let clients = g.C.Clients.meaning c.args.clients.now in
    let s = c.args.store.now in
    let o = g.D.Disk.tells c.args.disk.now in
    let to = c.args.to.now.items in
    on_error c.from_residual-in_err-bytes.result fault.Memory
    (λ r. HasPut clients c.args.session.now.number c.args.now s s to to r o o)
    c.from_residual-in_err-bytes.ensures.1
    (put_starved c.images_stand.ensures clients c.args.session.now c.args.now s o c.requires.able
    to to)

pub returns-in_err-extend_from_slice-clause-put : goal.returns-in_err-extend_from_slice-clause-put
returns-in_err-extend_from_slice-clause-put g c =
    let clients = g.C.Clients.meaning c.args.clients.now in
    let s = c.args.store.now in
    let o = g.D.Disk.tells c.args.disk.now in
    let to = c.args.to.now.items in
    let to' = c.extend_from_slice.new.self.items in
    on_error c.from_residual-in_err-extend_from_slice.result fault.Memory
    (λ r. HasPut clients c.args.session.now.number c.args.now s s to to' r o o)
    c.from_residual-in_err-extend_from_slice.ensures.1
    (put_starved c.images_stand.ensures clients c.args.session.now c.args.now s o c.requires.able
    to to')

pub returns-in_err-batch-clause-put : goal.returns-in_err-batch-clause-put
returns-in_err-batch-clause-put g c =
    let clients = g.C.Clients.meaning c.args.clients.now in
    let s = c.args.store.now in
    let o = g.D.Disk.tells c.args.disk.now in
    let to = c.args.to.now.items in
    let to' = c.extend_from_slice.new.self.items in
    on_error c.from_residual-in_err-batch.result fault.Memory
    (λ r. HasPut clients c.args.session.now.number c.args.now s s to to' r o o)
    c.from_residual-in_err-batch.ensures.1
    (put_starved c.images_stand.ensures clients c.args.session.now c.args.now s o c.requires.able
    to to')

pub returns-in_err-gather_known-clause-put : goal.returns-in_err-gather_known-clause-put
returns-in_err-gather_known-clause-put g c =
    let clients = g.C.Clients.meaning c.args.clients.now in
    let n = c.args.session.now.number in
    let s = c.args.store.now in
    let s' = c.gather_known.new.self in
    let o = g.D.Disk.tells c.args.disk.now in
    let o' = g.D.Disk.tells c.gather_known.new.disk in
    let what = c.in-Some.out in
    let to = c.args.to.now.items in
    let to' = c.extend_from_slice.new.self.items in
    let e = c.in_err-gather_known.field-0.0 in
    let due : IsDue clients s.state.facts (session_at s.state.facts.sessions n) c.args.now what =
    due_is clients s.state.facts (session_at s.state.facts.sessions n) c.args.now what
    (sym c.in-Some.is
    ∙ (c.in_ok-out.ensures.due clients
    (subst (KnowsJudgements clients) (sym c.state.ensures) c.requires.able.gathering.knows)
    ∙ ap (λ (t : StateValue). due_of clients t.facts (session_at t.facts.sessions n) c.args.now)
    c.state.ensures)) in
    on_error c.from_residual-in_err-gather_known.result e
    (λ r. HasPut clients n c.args.now s s' to to' r o o')
    c.from_residual-in_err-gather_known.ensures.1
    (put_failed clients n c.args.now s s' to to' o o' e what c.requires.able.settled due
    c.gather_known.ensures.run
    (of_its_batch clients s s' c.in_ok-batch.batch (out_batch n c.args.now what) (Err e) o o'
    c.in_ok-batch.ensures c.in_err-gather_known.ensures.joins))

pub returns-clause-put : goal.returns-clause-put
returns-clause-put g c =
    let clients = g.C.Clients.meaning c.args.clients.now in
    let n = c.args.session.now.number in
    let s = c.args.store.now in
    let s' = c.gather_known.new.self in
    let o = g.D.Disk.tells c.args.disk.now in
    let o' = g.D.Disk.tells c.gather_known.new.disk in
    let what = c.in-Some.out in
    let to = c.args.to.now.items in
    let to' = c.extend_from_slice.new.self.items in
    let due : IsDue clients s.state.facts (session_at s.state.facts.sessions n) c.args.now what =
    due_is clients s.state.facts (session_at s.state.facts.sessions n) c.args.now what
    (sym c.in-Some.is
    ∙ (c.in_ok-out.ensures.due clients
    (subst (KnowsJudgements clients) (sym c.state.ensures) c.requires.able.gathering.knows)
    ∙ ap (λ (t : StateValue). due_of clients t.facts (session_at t.facts.sessions n) c.args.now)
    c.state.ensures)) in
    put_made clients n c.args.now s s' to to' o o' tt what due
    (c.in_ok-extend_from_slice.ensures.items
    ∙ ap (λ (xs : List ℕ). to ++ xs) (c.as_slice.ensures.value ∙ c.in_ok-bytes.ensures))
    c.gather_known.ensures.run
    (of_its_batch clients s s' c.in_ok-batch.batch (out_batch n c.args.now what) (Ok tt) o o'
    c.in_ok-batch.ensures c.in_ok-gather_known.ensures.joins)

pub returns-clause-able : goal.returns-clause-able
returns-clause-able g c =
    let clients = g.C.Clients.meaning c.args.clients.now in
    let n = c.args.session.now.number in
    let s = c.args.store.now in
    let s' = c.gather_known.new.self in
    let o = g.D.Disk.tells c.args.disk.now in
    let o' = g.D.Disk.tells c.gather_known.new.disk in
    let what = c.in-Some.out in
    able_put clients c.args.session.now c.args.now s s' o o' tt what c.requires.able
    c.gather_known.ensures.run
    (of_its_batch clients s s' c.in_ok-batch.batch (out_batch n c.args.now what) (Ok tt) o o'
    c.in_ok-batch.ensures c.in_ok-gather_known.ensures.joins) c.gather_known.ensures.gathering
