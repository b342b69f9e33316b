use Rattle.std.proofs.Common.{◌∙◌, ap}
use Rattle.sync_rules.specs.Facts.{takes_of}
use Rattle.sync_store.specs.declared.fault.StoreFault.TheVariants as fault
use Rattle.mailbox_core.specs.Steps.{HasTakenRecord}
use Rattle.mailbox_core.proofs.Joined.{on_error}
use Rattle.mailbox_core.proofs.Taken.{able_taken, has_taken, not_taken, take_may, taken_starved}
use Rattle.mailbox_core.proofs.reading.take_one.Goals as goal

pub returns-in_err-batch-clause-taken : goal.returns-in_err-batch-clause-taken
returns-in_err-batch-clause-taken g c =
    let clients = g.C.Clients.meaning c.args.clients.now in
    let s = c.args.store.now in
    let o = g.D.Disk.tells c.args.disk.now in
    on_error c.from_residual.result fault.Memory
    (λ r. HasTakenRecord clients c.args.session.now.number c.args.rec s s r o o)
    c.from_residual.ensures.1
    (taken_starved c.images_stand.ensures clients c.args.session.now c.args.rec s o c.requires.able)

pub returns-in_err-gather_known-clause-taken : goal.returns-in_err-gather_known-clause-taken
returns-in_err-gather_known-clause-taken g c =
    let clients = g.C.Clients.meaning c.args.clients.now in
    let s = c.args.store.now in
    let s1 = c.gather_known.new.self in
    let o = g.D.Disk.tells c.args.disk.now in
    let o1 = g.D.Disk.tells c.gather_known.new.disk in
    let numbered = c.takes-k.ensures
    ∙ ap (λ v. takes_of v.facts.takes c.args.session.now.number) c.state.ensures in
    on_error c.from_residual-in_err-gather_known.result c.in_err-gather_known.field-0.0
    (λ r. HasTakenRecord clients c.args.session.now.number c.args.rec s s1 r o o1)
    c.from_residual-in_err-gather_known.ensures.1
    (not_taken clients c.args.session.now c.takes-k.result c.args.rec s s1 c.in_ok-batch.batch o o1
    c.requires.able numbered c.in_ok-batch.ensures.batch c.in_err-gather_known.field-0.0
    c.gather_known.ensures.run c.in_err-gather_known.ensures.joins)

pub gather_settling-requires : goal.gather_settling-requires
gather_settling-requires g c = record {
  gathering =
      c.gather_known.ensures.gathering c.in_ok-gather_known.ensures.joins.1.closed;
}

pub returns-clause-taken : goal.returns-clause-taken
returns-clause-taken g c =
    let clients = g.C.Clients.meaning c.args.clients.now in
    let s = c.args.store.now in
    let o = g.D.Disk.tells c.args.disk.now in
    let o1 = g.D.Disk.tells c.gather_known.new.disk in
    let numbered = c.takes-k.ensures
    ∙ ap (λ v. takes_of v.facts.takes c.args.session.now.number) c.state.ensures in
    has_taken clients c.args.session.now c.takes-k.result c.args.rec s c.gather_known.new.self
    c.in_ok-batch.batch o o1 c.requires.able numbered c.in_ok-batch.ensures.batch
    c.gather_settling.new.self tt c.gather_settling.result
    (g.D.Disk.tells c.gather_settling.new.disk) c.gather_known.ensures.run
    c.in_ok-gather_known.ensures.joins
    (c.gather_known.ensures.gathering c.in_ok-gather_known.ensures.joins.1.closed)
    (take_may clients c.args.session.now c.takes-k.result c.args.rec s o c.in_ok-batch.batch
    c.requires.able c.records_are_within.ensures numbered c.in_ok-batch.ensures.batch)
    c.gather_settling.ensures.run c.gather_settling.ensures.settles

pub returns-clause-able : goal.returns-clause-able
returns-clause-able g c =
    able_taken (g.C.Clients.meaning c.args.clients.now) c.args.session.now c.args.rec
    c.args.store.now c.gather_settling.new.self (g.D.Disk.tells c.args.disk.now)
    (g.D.Disk.tells c.gather_settling.new.disk) c.gather_settling.result c.requires.able
    (returns-clause-taken g c) c.gather_settling.ensures.gathering
