use Rattle.std.proofs.Common.{refl, sym, ◌∙◌, inl}
use Rattle.store_commands.proofs.Stopped.{stops_refused}
use Rattle.store_commands.proofs.Passing.{serves_on}
use Rattle.mailbox_commands.specs.Tests.{mailbox_test}
use Rattle.mailbox_commands.proofs.Early.{tested_begins}
use Rattle.mailbox_commands.proofs.Taken.{serves_unread, taken_on, taken_read, taken_unread}
use Rattle.mailbox_commands.proofs.taking.take_mail_loaded.Goals as goal

pub returns-in-Some-clause-taken : goal.returns-in-Some-clause-taken
returns-in-Some-clause-taken g c start was =
    let clients = g.C.Clients.meaning c.args.clients.now in
    inl (stops_refused clients (λ f. mailbox_test f c.args.contact) _ _ _ _ _ was.run
    (record { same = refl; same_faults = refl }) c.args.store.now was.rests was.facts
    c.in-Some.why (sym c.refusal.ensures ∙ c.in-Some.is)
    (record { same = refl; same_faults = refl }))

pub returns-in_err-bytes-clause-taken : goal.returns-in_err-bytes-clause-taken
returns-in_err-bytes-clause-taken g c start was =
    let clients = g.C.Clients.meaning c.args.clients.now in
    let came = c.in_err-bytes.field-0.0 in
    taken_on clients c.args.contact _ _ _ _ _ _ c.from_residual.result came
    c.from_residual.ensures.1
    (taken_unread clients c.args.contact _ _ _ _ _ _ came c.in_err-bytes.ensures
    c.args.store.now was.run was.rests was.facts (sym c.refusal.ensures ∙ c.in_default.is)
    (record { same = refl; same_faults = refl }))

pub take_bytes-requires : goal.take_bytes-requires
take_bytes-requires g c = record {
  ready = c.requires.ready;
  begins =
      tested_begins c.args.store.now.state.facts c.args.contact (sym c.refusal.ensures
      ∙ c.in_default.is);
}

pub returns-clause-taken : goal.returns-clause-taken
returns-clause-taken g c start was =
    let clients = g.C.Clients.meaning c.args.clients.now in
    taken_read clients c.args.contact _ _ _ _ _ _ _ c.args.store.now c.in_ok-bytes.bytes.items
    c.as_slice.result.now _
    was.run was.rests was.opened (sym c.refusal.ensures ∙ c.in_default.is) c.in_ok-bytes.ensures
    c.as_slice.ensures.value
    c.take_bytes.ensures.ran

pub returns-in_err-bytes-clause-serves : goal.returns-in_err-bytes-clause-serves
returns-in_err-bytes-clause-serves g c served =
    let clients = g.C.Clients.meaning c.args.clients.now in
    let o = g.D.Disk.tells c.args.disk.now in
    let came = c.in_err-bytes.field-0.0 in
    serves_on c.from_residual.result came c.from_residual.ensures.1 clients c.args.store.now o
    (serves_unread clients c.args.store.now o _ _ came served c.in_err-bytes.ensures)

pub returns-clause-serves : goal.returns-clause-serves
returns-clause-serves g c served = c.take_bytes.ensures.serves served.ready.short
