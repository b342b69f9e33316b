use Rattle.std.proofs.Common.{[], ap, sym, ◌∙◌}
use Rattle.sync_store.specs.declared.fault.StoreFault.TheVariants as fault
use Rattle.mailbox_core.specs.Files.{ends_as}
use Rattle.mailbox_core.specs.Steps.{HasReadItem, left_of}
use Rattle.mailbox_core.proofs.Joined.{on_error}
use Rattle.mailbox_core.proofs.Lefts.{left_ended, left_one, left_skipped}
use Rattle.mailbox_core.proofs.ReadSteps.{read_end, read_last, read_one, read_past, read_starved}
use Rattle.mailbox_core.proofs.reading.take_next.Goals as goal

pub returns-in_err-place-clause-read : goal.returns-in_err-place-clause-read
returns-in_err-place-clause-read g c =
    let clients = g.C.Clients.meaning c.args.clients.now in
    let s = c.args.store.now in
    let o = g.D.Disk.tells c.args.disk.now in
    let left = left_of c.args.reader.now c.args.piece.now in
    let left' = left_of c.next_in.new.self c.next_in.new.piece in
    on_error c.from_residual.result fault.Memory
    (λ r. HasReadItem clients c.args.session.now.number s s left left' r o o)
    c.from_residual.ensures.1
    (read_starved c.images_stand.ensures clients c.args.session.now s left left' o c.requires.able)

pub returns-then-foreign-clause-read : goal.returns-then-foreign-clause-read
returns-then-foreign-clause-read g c =
    read_last (g.C.Clients.meaning c.args.clients.now) c.args.session.now.number c.args.store.now
    c.take_one.new.store _ _ _ _ c.in-One.place c.in-One.rec tt
    (left_one c.args.piece.now c.next_in.new.piece c.args.reader.now c.next_in.new.self
    c.in-One.place c.in-One.rec (rw c.in-One.is at c.in_ok-place.ensures.stream))
    (sym c.is_foreign-foreign.ensures ∙ c.if-foreign.true)
    c.in_ok-take_one-in-One.ensures.taken

pub returns-else-foreign-clause-read : goal.returns-else-foreign-clause-read
returns-else-foreign-clause-read g c =
    read_one (g.C.Clients.meaning c.args.clients.now) c.args.session.now.number c.args.store.now
    c.take_one.new.store _ _ _ _ c.in-One.place c.in-One.rec tt
    (left_one c.args.piece.now c.next_in.new.piece c.args.reader.now c.next_in.new.self
    c.in-One.place c.in-One.rec (rw c.in-One.is at c.in_ok-place.ensures.stream))
    (sym c.is_foreign-foreign.ensures ∙ c.if-foreign.false)
    c.in_ok-take_one-in-One.ensures.taken

pub returns-in-Skipped-clause-read : goal.returns-in-Skipped-clause-read
returns-in-Skipped-clause-read g c =
    read_past c.images_stand.ensures (g.C.Clients.meaning c.args.clients.now) c.args.session.now
    c.args.store.now (left_of c.args.reader.now c.args.piece.now)
    (left_of c.next_in.new.self c.next_in.new.piece) (g.D.Disk.tells c.args.disk.now)
    c.requires.able
    (left_skipped c.args.piece.now c.next_in.new.piece c.args.reader.now c.next_in.new.self
    c.in-Skipped.field-0 c.in-Skipped.field-1 c.in-Skipped.field-2
    (rw c.in-Skipped.is at c.in_ok-place.ensures.stream))

pub returns-in-More-clause-read : goal.returns-in-More-clause-read
returns-in-More-clause-read g c =
    let r' = c.next_in.new.self in
    let none = left_ended c.args.piece.now c.next_in.new.piece c.args.reader.now r'
    c.in_ok-place.field-0 c.in-More.is c.in_ok-place.ensures.stream c.in_ok-place.ensures.left in
    read_end c.images_stand.ensures (g.C.Clients.meaning c.args.clients.now) c.args.session.now
    c.args.store.now (left_of c.args.reader.now c.args.piece.now)
    (left_of r' c.next_in.new.piece) (g.D.Disk.tells c.args.disk.now) c.requires.able
    c.ends_as.result
    (none ∙ (λ i. record {
      records = [];
      ending = (ap ends_as (sym c.end.ensures.ending) ∙ sym c.ends_as.ensures) i;
    }))
