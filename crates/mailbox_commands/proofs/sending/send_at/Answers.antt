use Rattle.std.proofs.Common.{Err, ap, refl, ◌∙◌}
use Rattle.mailbox_commands.specs.Sending.{out_errand}
use Rattle.sync_words.specs.Outcomes.{came_to}
use Rattle.store_commands.proofs.Errands.{errand_on, errand_stopped, errand_unsettled}
use Rattle.sync_store.specs.Store.{format_meant}
use Rattle.store_commands.proofs.Passing.{serves_on}
use Rattle.store_commands.proofs.Serving.{anew_stays_so, served_now, serves_by, serves_printed}
use Rattle.mailbox_commands.proofs.Early.{still_begins}
use Rattle.mailbox_commands.proofs.Sent.{sent_printed}
use Rattle.mailbox_commands.proofs.sending.send_at.Goals as goal

pub returns-in_err-migrate_and_settle-clause-ran : goal.returns-in_err-migrate_and_settle-clause-ran
returns-in_err-migrate_and_settle-clause-ran g c =
    let clients = g.C.Clients.meaning c.args.clients.now in
    let errand = out_errand clients c.args.asked c.args.now in
    let came = c.in_err-migrate_and_settle.field-0.0 in
    errand_on c.from_residual.result came c.from_residual.ensures.1 clients errand _ _ _ _ _
    (errand_unsettled clients errand c.args.store.now c.migrate_and_settle.new.store _ _ _ _ came
    (record { same = refl; same_faults = refl }) c.in_err-migrate_and_settle.ensures.run
    c.in_err-migrate_and_settle.ensures.by
    (λ is. ap g.D.Disk.tells (c.in_err-migrate_and_settle.ensures.untouched (ap Err is)))
    c.in_err-migrate_and_settle.ensures.settled)

pub send_due-requires : goal.send_due-requires
send_due-requires g c =
    let clients = g.C.Clients.meaning c.args.clients.now in
    let settled = c.in_ok-migrate_and_settle.ensures.settled in
    record {
      ready = c.in_ok-migrate_and_settle.ensures.ready;
      settled = settled.answer.1;
      begins = still_begins clients c.args.asked.contact c.args.store.now c.migrate_and_settle.new.store
          _ _ settled.more
          c.requires.begins settled.comes;
      latency = c.requires.latency;
    }

pub returns-in_err-send_due-clause-ran : goal.returns-in_err-send_due-clause-ran
returns-in_err-send_due-clause-ran g c =
    let clients = g.C.Clients.meaning c.args.clients.now in
    let errand = out_errand clients c.args.asked c.args.now in
    let came = c.in_err-send_due.field-0.0 in
    errand_on c.from_residual-in_err-send_due.result came c.from_residual-in_err-send_due.ensures.1
    clients errand _ _ _ _ _
    (errand_stopped clients errand c.args.store.now c.migrate_and_settle.new.store c.send_due.new.store
    _ _ _ _ _ _ came
    (record { same = refl; same_faults = refl }) c.requires.ready.limited
    c.in_ok-migrate_and_settle.ensures.run
    c.in_ok-migrate_and_settle.ensures.settled c.in_err-send_due.ensures.sent.does)

pub returns-clause-ran : goal.returns-clause-ran
returns-clause-ran g c =
    let clients = g.C.Clients.meaning c.args.clients.now in
    sent_printed c.outputs_are_sent.ensures clients c.args.asked c.args.now c.args.store.now
    c.migrate_and_settle.new.store
    c.send_due.new.store _ _ _ _ _ _ _ _ _ c.as_slice.result.now _ c.requires.ready.limited
    c.in_ok-migrate_and_settle.ensures.run c.in_ok-migrate_and_settle.ensures.settled
    c.in_ok-send_due.ensures.sent
    c.new-bytes.ensures.items c.as_slice.ensures.value c.print_bytes.ensures

pub returns-in_err-migrate_and_settle-clause-serves : goal.returns-in_err-migrate_and_settle-clause-serves
returns-in_err-migrate_and_settle-clause-serves g c short =
    let clients = g.C.Clients.meaning c.args.clients.now in
    let came = c.in_err-migrate_and_settle.field-0.0 in
    let settled = c.in_err-migrate_and_settle.ensures.settled in
    let s1 = c.migrate_and_settle.new.store in
    let o1 = g.D.Disk.tells c.migrate_and_settle.new.disk in
    serves_on c.from_residual.result came c.from_residual.ensures.1 clients s1 o1
    (serves_by clients s1 o1 (g.D.Disk.tells c.args.disk.now) (Err came)
    (settled.comes.limit ∙ c.requires.ready.limited) (settled.comes.short short)
    c.in_err-migrate_and_settle.ensures.stays
    (anew_stays_so clients c.args.store.now s1 (Err came) short settled.answer)
    c.in_err-migrate_and_settle.ensures.by)

pub returns-in_err-send_due-clause-serves : goal.returns-in_err-send_due-clause-serves
returns-in_err-send_due-clause-serves g c short =
    let clients = g.C.Clients.meaning c.args.clients.now in
    let came = c.in_err-send_due.field-0.0 in
    let settled = c.in_ok-migrate_and_settle.ensures.settled in
    let e = c.in_err-send_due.ensures in
    let s2 = c.send_due.new.store in
    let o2 = g.D.Disk.tells c.send_due.new.disk in
    serves_on c.from_residual-in_err-send_due.result came
    c.from_residual-in_err-send_due.ensures.1 clients s2 o2
    (serves_by clients s2 o2 (g.D.Disk.tells c.migrate_and_settle.new.disk) (Err came)
    (e.sent.does.comes.runs.limit ∙ settled.comes.limit ∙ c.requires.ready.limited)
    (ap format_meant e.sent.does.comes.runs.format ∙ settled.answer.2) e.stays e.settled
    e.sent.does.by)

pub returns-clause-serves : goal.returns-clause-serves
returns-clause-serves g c short =
    let clients = g.C.Clients.meaning c.args.clients.now in
    let settled = c.in_ok-migrate_and_settle.ensures.settled in
    let e = c.in_ok-send_due.ensures in
    let s2 = c.send_due.new.store in
    let o2 = g.D.Disk.tells c.send_due.new.disk in
    serves_printed clients s2 o2 c.as_slice.result.now (g.W.Sink.tells c.args.out.now)
    (g.W.Sink.tells c.print_bytes.new.out) (came_to c.print_bytes.result)
    (served_now clients s2 o2 e.stays
    (e.sent.does.comes.runs.limit ∙ settled.comes.limit ∙ c.requires.ready.limited)
    (ap format_meant e.sent.does.comes.runs.format ∙ settled.answer.2) e.settled)
    c.print_bytes.ensures
