use Rattle.std.proofs.Common.{◌≤◌, ◌∙◌, ap, arith}
use Rattle.sync_rules.specs.Facts.{takes_of}
use Rattle.mailbox_core.specs.Steps.{HasReadRest, left_of, next_on}
use Rattle.mailbox_core.proofs.Joined.{on_error}
use Rattle.mailbox_core.proofs.ReadSteps.{way_begins, way_ends, way_goes_on, way_stops, way_within}
use Rattle.mailbox_core.proofs.reading.take_all.Goals as goal

pub items-init : goal.items-init
items-init g c = record {
  before =
      c.takes-before.ensures
      ∙ ap (λ s. takes_of s.facts.takes c.args.session.now.number) c.state.ensures;
  way = way_begins c.images_stand.ensures (g.C.Clients.meaning c.args.clients.now)
      c.args.session.now c.args.store.now (left_of c.args.reader.now c.args.piece.now)
      (g.D.Disk.tells c.args.disk.now) c.requires.able;
  able = c.requires.able;
}

pub items-preserved : goal.items-preserved
items-preserved g c = record {
  before = c.items.invariant.before;
  way = way_goes_on (g.C.Clients.meaning c.args.clients.now) c.args.session.now.number
      c.args.store.now c.items.store c.take_next.new.store
      (left_of c.args.reader.now c.args.piece.now)
      (left_of c.items.reader c.items.piece) (left_of c.take_next.new.reader c.take_next.new.piece)
      (g.D.Disk.tells c.args.disk.now) (g.D.Disk.tells c.items.disk)
      (g.D.Disk.tells c.take_next.new.disk) c.items.invariant.way
      (rw c.in_default.is at c.in_ok-ending.ensures.read);
  able = c.in_ok-ending.ensures.able;
}

pub overflow_sub-taken : goal.overflow_sub-taken
overflow_sub-taken g c =
    let within : next_on c.args.store.now c.args.session.now.number
    ≤ next_on c.take_next.new.store c.args.session.now.number =
    way_within (g.C.Clients.meaning c.args.clients.now) c.args.session.now.number c.args.store.now
    c.items.store c.take_next.new.store (left_of c.args.reader.now c.args.piece.now)
    (left_of c.items.reader c.items.piece) (left_of c.take_next.new.reader c.take_next.new.piece)
    (g.D.Disk.tells c.args.disk.now) (g.D.Disk.tells c.items.disk)
    (g.D.Disk.tells c.take_next.new.disk) c.items.invariant.way c.in-Some.ending
    (rw c.in-Some.is at c.in_ok-ending.ensures.read) in
    omega (
      arith,
      within,
      c.items.invariant.before,
      c.takes.ensures,
      ap (λ s. takes_of s.facts.takes c.args.session.now.number) c.state-in-Some.ensures,
    )

pub returns-in-Some-clause-read : goal.returns-in-Some-clause-read
returns-in-Some-clause-read g c =
    let now = c.takes.ensures
    ∙ ap (λ s. takes_of s.facts.takes c.args.session.now.number) c.state-in-Some.ensures in
    way_ends (g.C.Clients.meaning c.args.clients.now) c.args.session.now.number c.args.store.now
    c.items.store c.take_next.new.store (left_of c.args.reader.now c.args.piece.now)
    (left_of c.items.reader c.items.piece) (left_of c.take_next.new.reader c.take_next.new.piece)
    (g.D.Disk.tells c.args.disk.now) (g.D.Disk.tells c.items.disk)
    (g.D.Disk.tells c.take_next.new.disk) c.items.invariant.way c.in-Some.ending
    (rw c.in-Some.is at c.in_ok-ending.ensures.read) c.in_ok-ending.ensures.able.settled _
    (omega (arith, now, c.items.invariant.before))

pub returns-in_err-ending-clause-read : goal.returns-in_err-ending-clause-read
returns-in_err-ending-clause-read g c =
    let clients = g.C.Clients.meaning c.args.clients.now in
    let o = g.D.Disk.tells c.args.disk.now in
    on_error c.from_residual.result c.in_err-ending.field-0.0
    (λ r. HasReadRest clients c.args.session.now.number c.args.store.now c.take_next.new.store
    (left_of c.args.reader.now c.args.piece.now) r o (g.D.Disk.tells c.take_next.new.disk))
    c.from_residual.ensures.1
    (way_stops clients c.args.session.now.number c.args.store.now c.items.store
    c.take_next.new.store (left_of c.args.reader.now c.args.piece.now)
    (left_of c.items.reader c.items.piece) (left_of c.take_next.new.reader c.take_next.new.piece)
    (g.D.Disk.tells c.args.disk.now) (g.D.Disk.tells c.items.disk)
    (g.D.Disk.tells c.take_next.new.disk) c.items.invariant.way c.in_err-ending.field-0.0
    c.in_err-ending.ensures.read)
