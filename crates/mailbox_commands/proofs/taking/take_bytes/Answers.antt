use Rattle.std.proofs.Common.{Err, ap, refl, ◌∙◌}
use Rattle.mailbox_commands.specs.Taking.{in_errand, outcome_at, taken_text}
use Rattle.sync_words.specs.Outcomes.{came_to}
use Rattle.store_commands.proofs.Errands.{errand_on, errand_stopped, errand_unsettled}
use Rattle.sync_store.specs.Store.{format_meant}
use Rattle.store_commands.proofs.Passing.{serves_on}
use Rattle.store_commands.proofs.Serving.{anew_stays_so, served_now, serves_by, serves_told}
use Rattle.mailbox_commands.proofs.Early.{still_begins}
use Rattle.mailbox_commands.proofs.Taken.{taken_printed}
use Rattle.mailbox_commands.proofs.taking.take_bytes.Goals as goal

pub returns-in_err-migrate_and_settle-clause-ran : goal.returns-in_err-migrate_and_settle-clause-ran
returns-in_err-migrate_and_settle-clause-ran g c =
    let clients = g.C.Clients.meaning c.args.clients.now in
    let errand = in_errand clients c.args.contact c.args.bytes.now in
    let came = c.in_err-migrate_and_settle.field-0.0 in
    errand_on c.from_residual.result came c.from_residual.ensures.1 clients errand _ _ _ _ _
    (errand_unsettled clients errand c.args.store.now c.migrate_and_settle.new.store _ _ _ _ came
    (record { same = refl; same_faults = refl }) c.in_err-migrate_and_settle.ensures.run
    c.in_err-migrate_and_settle.ensures.by
    (λ is. ap g.D.Disk.tells (c.in_err-migrate_and_settle.ensures.untouched (ap Err is)))
    c.in_err-migrate_and_settle.ensures.settled)

pub take_records-requires : goal.take_records-requires
take_records-requires g c =
    let clients = g.C.Clients.meaning c.args.clients.now in
    let settled = c.in_ok-migrate_and_settle.ensures.settled in
    record {
      ready = c.in_ok-migrate_and_settle.ensures.ready;
      settled = settled.answer.1;
      begins = still_begins clients c.args.contact c.args.store.now c.migrate_and_settle.new.store _ _
          settled.more
          c.requires.begins settled.comes;
    }

pub returns-in_err-end-clause-ran : goal.returns-in_err-end-clause-ran
returns-in_err-end-clause-ran g c =
    let clients = g.C.Clients.meaning c.args.clients.now in
    let errand = in_errand clients c.args.contact c.args.bytes.now in
    let came = c.in_err-end.field-0.0 in
    errand_on c.from_residual-in_err-end.result came c.from_residual-in_err-end.ensures.1 clients
    errand _ _ _ _ _
    (errand_stopped clients errand c.args.store.now c.migrate_and_settle.new.store
    c.take_records.new.store _ _ _ _ _ _ came
    (record { same = refl; same_faults = refl }) c.requires.ready.limited
    c.in_ok-migrate_and_settle.ensures.run
    c.in_ok-migrate_and_settle.ensures.settled c.in_err-end.ensures.does)

pub returns-clause-ran : goal.returns-clause-ran
returns-clause-ran g c =
    let clients = g.C.Clients.meaning c.args.clients.now in
    taken_printed clients c.args.contact c.args.bytes.now c.args.store.now
    c.migrate_and_settle.new.store
    c.take_records.new.store _ _ _ _ _ _ _ c.in_ok-end.end _ c.requires.ready.limited
    c.in_ok-migrate_and_settle.ensures.run c.in_ok-migrate_and_settle.ensures.settled
    c.in_ok-end.ensures.does
    c.in_ok-end.ensures.end c.print_end.ensures

pub returns-in_err-migrate_and_settle-clause-serves : goal.returns-in_err-migrate_and_settle-clause-serves
returns-in_err-migrate_and_settle-clause-serves g c short =
    let clients = g.C.Clients.meaning c.args.clients.now in
    let came = c.in_err-migrate_and_settle.field-0.0 in
    let settled = c.in_err-migrate_and_settle.ensures.settled in
    let s1 = c.migrate_and_settle.new.store in
    let o1 = g.D.Disk.tells c.migrate_and_settle.new.disk in
    serves_on c.from_residual.result came c.from_residual.ensures.1 clients s1 o1
    (serves_by clients s1 o1 (g.D.Disk.tells c.args.disk.now) (Err came)
    (settled.comes.limit ∙ c.requires.ready.limited) (settled.comes.short short)
    c.in_err-migrate_and_settle.ensures.stays
    (anew_stays_so clients c.args.store.now s1 (Err came) short settled.answer)
    c.in_err-migrate_and_settle.ensures.by)

pub returns-in_err-end-clause-serves : goal.returns-in_err-end-clause-serves
returns-in_err-end-clause-serves g c short =
    let clients = g.C.Clients.meaning c.args.clients.now in
    let came = c.in_err-end.field-0.0 in
    let settled = c.in_ok-migrate_and_settle.ensures.settled in
    let e = c.in_err-end.ensures in
    let s2 = c.take_records.new.store in
    let o2 = g.D.Disk.tells c.take_records.new.disk in
    serves_on c.from_residual-in_err-end.result came
    c.from_residual-in_err-end.ensures.1 clients s2 o2
    (serves_by clients s2 o2 (g.D.Disk.tells c.migrate_and_settle.new.disk) (Err came)
    (e.does.comes.runs.limit ∙ settled.comes.limit ∙ c.requires.ready.limited)
    (ap format_meant e.does.comes.runs.format ∙ settled.answer.2) e.stays e.settled
    e.does.by)

pub returns-clause-serves : goal.returns-clause-serves
returns-clause-serves g c short =
    let clients = g.C.Clients.meaning c.args.clients.now in
    let settled = c.in_ok-migrate_and_settle.ensures.settled in
    let e = c.in_ok-end.ensures in
    let s2 = c.take_records.new.store in
    let o2 = g.D.Disk.tells c.take_records.new.disk in
    serves_told clients s2 o2 (outcome_at c.in_ok-end.end.ending)
    (taken_text c.in_ok-end.end.taken) (g.W.Sink.tells c.args.out.now)
    (g.W.Sink.tells c.print_end.new.out) (came_to c.print_end.result)
    (served_now clients s2 o2 e.stays
    (e.does.comes.runs.limit ∙ settled.comes.limit ∙ c.requires.ready.limited)
    (ap format_meant e.does.comes.runs.format ∙ settled.answer.2) e.settled)
    c.print_end.ensures
