use Rattle.std.proofs.Common.{refl, sym, ◌∙◌, inl}
use Rattle.store_commands.proofs.Stopped.{stops_refused}
use Rattle.mailbox_commands.specs.Tests.{mailbox_test}
use Rattle.mailbox_commands.proofs.Early.{tested_begins}
use Rattle.mailbox_commands.proofs.Sent.{mailed_read, ready_still}
use Rattle.mailbox_commands.proofs.sending.send_mail_loaded.Goals as goal

pub returns-in-Some-clause-sent : goal.returns-in-Some-clause-sent
returns-in-Some-clause-sent g c start was =
    let clients = g.C.Clients.meaning c.args.clients.now in
    inl (stops_refused clients (λ f. mailbox_test f c.args.asked.contact) _ _ _ _ _ was.run
    (record { same = refl; same_faults = refl }) c.args.store.now was.rests was.facts
    c.in-Some.why (sym c.refusal.ensures ∙ c.in-Some.is) tt)

pub send_at-requires : goal.send_at-requires
send_at-requires g c =
    let clients = g.C.Clients.meaning c.args.clients.now in
    record {
      ready = ready_still clients c.args.store.now _ _ c.now-now.ensures.call c.requires.ready;
      begins =
          tested_begins c.args.store.now.state.facts c.args.asked.contact (sym c.refusal.ensures
          ∙ c.in_default.is);
      latency = c.requires.latency;
    }

pub returns-clause-sent : goal.returns-clause-sent
returns-clause-sent g c start was =
    let clients = g.C.Clients.meaning c.args.clients.now in
    mailed_read clients c.args.asked c.now-now.result _ _ _ _ _ _ c.args.store.now _ was.run
    was.rests (ready_still clients c.args.store.now _ _ c.now-now.ensures.call was.opened)
    (sym c.refusal.ensures ∙ c.in_default.is) c.now-now.ensures.call c.now-now.ensures.links
    c.send_at.ensures.ran

pub returns-clause-serves : goal.returns-clause-serves
returns-clause-serves g c served = c.send_at.ensures.serves served.ready.short
