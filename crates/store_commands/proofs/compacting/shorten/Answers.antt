use Rattle.std.proofs.Common.{Err, ap, refl, ◌∙◌}
use Rattle.sync_words.specs.EntryTexts.{compacted_text}
use Rattle.sync_words.specs.Outcomes.{came_to}
use Rattle.store_commands.proofs.Compacts.{brief_printed, brief_stopped, brief_unsettled, makes_on}
use Rattle.store_commands.proofs.Passing.{serves_on}
use Rattle.store_commands.proofs.Serving.{anew_stays_so, serves_by, serves_printed, served_now}
use Rattle.store_commands.proofs.compacting.shorten.Goals as goal

pub returns-in_err-migrate_and_settle-clause-made : goal.returns-in_err-migrate_and_settle-clause-made
returns-in_err-migrate_and_settle-clause-made g c =
    let clients = g.C.Clients.meaning c.args.clients.now in
    let came = c.in_err-migrate_and_settle.field-0.0 in
    makes_on c.from_residual.result came c.from_residual.ensures.1 clients c.args.store.now _ _ _ _
    (brief_unsettled clients c.args.store.now c.migrate_and_settle.new.store _ _ _ _ came
    (record { same = refl; same_faults = refl })
    c.in_err-migrate_and_settle.ensures.run c.in_err-migrate_and_settle.ensures.by
    (λ is. ap g.D.Disk.tells (c.in_err-migrate_and_settle.ensures.untouched (ap Err is)))
    c.in_err-migrate_and_settle.ensures.settled)

pub make_brief-requires-clause-settled : goal.make_brief-requires-clause-settled
make_brief-requires-clause-settled g c = c.in_ok-migrate_and_settle.ensures.settled.answer.1

pub make_brief-requires-clause-short : goal.make_brief-requires-clause-short
make_brief-requires-clause-short g c = c.in_ok-migrate_and_settle.ensures.settled.answer.2

pub returns-in_err-make_brief-clause-made : goal.returns-in_err-make_brief-clause-made
returns-in_err-make_brief-clause-made g c =
    let clients = g.C.Clients.meaning c.args.clients.now in
    let came = c.in_err-make_brief.field-0.0 in
    makes_on c.from_residual-in_err-make_brief.result came
    c.from_residual-in_err-make_brief.ensures.1 clients c.args.store.now _ _ _ _
    (brief_stopped c.by_facts.ensures clients c.args.store.now c.migrate_and_settle.new.store
    c.make_brief.new.store _ _ _ _ _ _ came
    (record { same = refl; same_faults = refl }) c.requires.limited
    c.in_ok-migrate_and_settle.ensures.run c.in_ok-migrate_and_settle.ensures.settled
    c.in_err-make_brief.ensures.run c.in_err-make_brief.ensures.by
    c.in_err-make_brief.ensures.compacted)

pub returns-clause-made : goal.returns-clause-made
returns-clause-made g c =
    brief_printed c.by_facts.ensures (g.C.Clients.meaning c.args.clients.now) c.args.store.now
    c.migrate_and_settle.new.store c.make_brief.new.store _ _ _ _ _ _ _ _
    c.end-old.result c.end.result c.requires.limited c.in_ok-migrate_and_settle.ensures.run
    c.in_ok-migrate_and_settle.ensures.settled
    c.in_ok-make_brief.ensures.run c.in_ok-make_brief.ensures.compacted c.end-old.ensures.value
    c.end.ensures.value c.print_ends.ensures

pub returns-in_err-migrate_and_settle-clause-serves : goal.returns-in_err-migrate_and_settle-clause-serves
returns-in_err-migrate_and_settle-clause-serves g c served =
    let clients = g.C.Clients.meaning c.args.clients.now in
    let came = c.in_err-migrate_and_settle.field-0.0 in
    let settled = c.in_err-migrate_and_settle.ensures.settled in
    let s1 = c.migrate_and_settle.new.store in
    let o1 = g.D.Disk.tells c.migrate_and_settle.new.disk in
    serves_on c.from_residual.result came c.from_residual.ensures.1 clients s1 o1
    (serves_by clients s1 o1 (g.D.Disk.tells c.args.disk.now) (Err came)
    (settled.comes.limit ∙ c.requires.limited) (settled.comes.short served.ready.short)
    c.in_err-migrate_and_settle.ensures.stays
    (anew_stays_so clients c.args.store.now s1 (Err came) served.ready.short settled.answer)
    c.in_err-migrate_and_settle.ensures.by)

pub returns-in_err-make_brief-clause-serves : goal.returns-in_err-make_brief-clause-serves
returns-in_err-make_brief-clause-serves g c served =
    let clients = g.C.Clients.meaning c.args.clients.now in
    let came = c.in_err-make_brief.field-0.0 in
    let settled = c.in_ok-migrate_and_settle.ensures.settled in
    let s2 = c.make_brief.new.store in
    let o2 = g.D.Disk.tells c.make_brief.new.disk in
    serves_on c.from_residual-in_err-make_brief.result came
    c.from_residual-in_err-make_brief.ensures.1 clients s2 o2
    (serves_by clients s2 o2 (g.D.Disk.tells c.migrate_and_settle.new.disk) (Err came)
    (c.in_err-make_brief.ensures.limit ∙ settled.comes.limit ∙ c.requires.limited)
    c.in_err-make_brief.ensures.short c.in_err-make_brief.ensures.stays
    c.in_err-make_brief.ensures.settled c.in_err-make_brief.ensures.by)

pub returns-clause-serves : goal.returns-clause-serves
returns-clause-serves g c served =
    let clients = g.C.Clients.meaning c.args.clients.now in
    let settled = c.in_ok-migrate_and_settle.ensures.settled in
    let made = c.in_ok-make_brief.ensures in
    let s2 = c.make_brief.new.store in
    let o2 = g.D.Disk.tells c.make_brief.new.disk in
    serves_printed clients s2 o2 (compacted_text c.end-old.result c.end.result)
    (g.W.Sink.tells c.args.out.now) (g.W.Sink.tells c.print_ends.new.out)
    (came_to c.print_ends.result)
    (served_now clients s2 o2 made.stays (made.limit ∙ settled.comes.limit ∙ c.requires.limited)
    made.short made.settled) c.print_ends.ensures
