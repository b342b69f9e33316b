use Rattle.std.proofs.Common.{◌≡◌, ℕ, List, [], ◌++◌, Ok, Err, ap, refl, ◌∙◌}
use Rattle.std.specs.String.{string_bytes}
use Rattle.sync_words.specs.Outcomes.{came_to}
use Rattle.store_commands.proofs.Errands.{errand_on, errand_stopped, errand_unsettled}
use Rattle.sharing_commands.specs.Agreeing.{agreement}
use Rattle.sharing_commands.specs.Agreement.{agreed_text}
use Rattle.sharing_commands.proofs.Wholes.{agreement_done, agreement_printed, still_known}
use Rattle.store_commands.proofs.Passing.{leaves_on, serves_on}
use Rattle.store_commands.proofs.Serving.{anew_stays_so, serves_by, serves_printed}
use Rattle.sync_store.specs.Store.{format_meant}
use Rattle.sharing_commands.proofs.Standing.{serves_known}
use Rattle.store_commands.proofs.Sessions.{leaves_behind, leaves_by, leaves_then}
use Rattle.sharing_commands.proofs.Leaving.{agreed_leaves}
use Rattle.sharing_commands.proofs.agreeing.set_agreed.Goals as goal

pub returns-in_err-migrate_and_settle-clause-ran : goal.returns-in_err-migrate_and_settle-clause-ran
returns-in_err-migrate_and_settle-clause-ran g c =
    let clients = g.C.Clients.meaning c.args.clients.now in
    let errand = agreement clients c.args.contact c.args.group.now in
    let came = c.in_err-migrate_and_settle.field-0.0 in
    errand_on c.from_residual.result came c.from_residual.ensures.1 clients errand _ _ _ _ _
    (errand_unsettled clients errand c.args.store.now c.migrate_and_settle.new.store _ _ _ _ came
    (record { same = refl; same_faults = refl }) c.in_err-migrate_and_settle.ensures.run
    c.in_err-migrate_and_settle.ensures.by
    (λ is. ap g.D.Disk.tells (c.in_err-migrate_and_settle.ensures.untouched (ap Err is)))
    c.in_err-migrate_and_settle.ensures.settled)

pub add_agreed-requires : goal.add_agreed-requires
add_agreed-requires g c =
    let clients = g.C.Clients.meaning c.args.clients.now in
    let settled = c.in_ok-migrate_and_settle.ensures.settled in
    record {
      stands = record {
        ready = c.in_ok-migrate_and_settle.ensures.ready;
        is_store = c.end-end.ensures.numbers;
        settled = settled.answer.1;
        known = still_known clients c.args.contact c.args.store.now c.migrate_and_settle.new.store _ _
            settled.more
            c.requires.known settled.comes;
      };
    }

pub returns-in_err-add_agreed-clause-ran : goal.returns-in_err-add_agreed-clause-ran
returns-in_err-add_agreed-clause-ran g c =
    let clients = g.C.Clients.meaning c.args.clients.now in
    let errand = agreement clients c.args.contact c.args.group.now in
    let came = c.in_err-add_agreed.field-0.0 in
    let e = c.in_err-add_agreed.ensures in
    errand_on c.from_residual-in_err-add_agreed.result came
    c.from_residual-in_err-add_agreed.ensures.1 clients errand _ _ _ _ _
    (errand_stopped clients errand c.args.store.now c.migrate_and_settle.new.store
    c.add_agreed.new.store _ _ _ _ _ _ came (record { same = refl; same_faults = refl })
    c.requires.ready.limited c.in_ok-migrate_and_settle.ensures.run
    c.in_ok-migrate_and_settle.ensures.settled
    (agreement_done clients c.args.contact c.args.group.now c.migrate_and_settle.new.store
    c.add_agreed.new.store _ _ (Err came) e.adds e.by tt))

pub returns-clause-ran : goal.returns-clause-ran
returns-clause-ran g c =
    let clients = g.C.Clients.meaning c.args.clients.now in
    let e = c.in_ok-add_agreed.ensures in
    let empty : string_bytes c.new-text.result ≡ [] = c.new-text.ensures.bytes in
    agreement_printed clients c.args.contact c.args.group.now c.args.store.now
    c.migrate_and_settle.new.store c.add_agreed.new.store _ _ _ _ _ _ _ c.as_str.result.now _
    c.requires.ready.limited c.in_ok-migrate_and_settle.ensures.run
    c.in_ok-migrate_and_settle.ensures.settled e.adds e.by e.stands.settled
    (c.as_str.ensures.value ∙ e.text
    ∙ ap (λ (z : List ℕ).
    z ++ agreed_text clients c.args.contact c.args.group.now
    c.migrate_and_settle.new.store.state.facts)
    empty)
    c.print_text.ensures

pub returns-in_err-migrate_and_settle-clause-serves : goal.returns-in_err-migrate_and_settle-clause-serves
returns-in_err-migrate_and_settle-clause-serves g c served =
    let clients = g.C.Clients.meaning c.args.clients.now in
    let came = c.in_err-migrate_and_settle.field-0.0 in
    let settled = c.in_err-migrate_and_settle.ensures.settled in
    let s1 = c.migrate_and_settle.new.store in
    let o1 = g.D.Disk.tells c.migrate_and_settle.new.disk in
    serves_on c.from_residual.result came c.from_residual.ensures.1 clients s1 o1
    (serves_by clients s1 o1 (g.D.Disk.tells c.args.disk.now) (Err came)
    (settled.comes.limit ∙ c.requires.ready.limited) (settled.comes.short served.ready.short)
    c.in_err-migrate_and_settle.ensures.stays
    (anew_stays_so clients c.args.store.now s1 (Err came) served.ready.short settled.answer)
    c.in_err-migrate_and_settle.ensures.by)

pub returns-in_err-add_agreed-clause-serves : goal.returns-in_err-add_agreed-clause-serves
returns-in_err-add_agreed-clause-serves g c served =
    let clients = g.C.Clients.meaning c.args.clients.now in
    let came = c.in_err-add_agreed.field-0.0 in
    let settled = c.in_ok-migrate_and_settle.ensures.settled in
    let e = c.in_err-add_agreed.ensures in
    let s2 = c.add_agreed.new.store in
    let o2 = g.D.Disk.tells c.add_agreed.new.disk in
    serves_on c.from_residual-in_err-add_agreed.result came
    c.from_residual-in_err-add_agreed.ensures.1 clients s2 o2
    (serves_known clients s2 (g.D.Disk.tells c.migrate_and_settle.new.disk) o2 c.args.contact
    (Err came) (e.adds.adds.comes.runs.limit ∙ settled.comes.limit ∙ c.requires.ready.limited)
    (ap format_meant e.adds.adds.comes.runs.format ∙ settled.answer.2) e.stands e.by)

pub returns-clause-serves : goal.returns-clause-serves
returns-clause-serves g c served =
    let clients = g.C.Clients.meaning c.args.clients.now in
    let settled = c.in_ok-migrate_and_settle.ensures.settled in
    let e = c.in_ok-add_agreed.ensures in
    let s2 = c.add_agreed.new.store in
    let o2 = g.D.Disk.tells c.add_agreed.new.disk in
    serves_printed clients s2 o2 c.as_str.result.now (g.W.Sink.tells c.args.out.now)
    (g.W.Sink.tells c.print_text.new.out) (came_to c.print_text.result)
    (serves_known clients s2 (g.D.Disk.tells c.migrate_and_settle.new.disk) o2 c.args.contact
    (Ok tt) (e.adds.adds.comes.runs.limit ∙ settled.comes.limit ∙ c.requires.ready.limited)
    (ap format_meant e.adds.adds.comes.runs.format ∙ settled.answer.2) e.stands e.by) c.print_text.ensures

pub returns-in_err-migrate_and_settle-clause-sessions : goal.returns-in_err-migrate_and_settle-clause-sessions
returns-in_err-migrate_and_settle-clause-sessions g c =
    let came = c.in_err-migrate_and_settle.field-0.0 in
    let s1 = c.migrate_and_settle.new.store in
    leaves_on c.from_residual.result came c.from_residual.ensures.1 c.args.store.now s1
    (leaves_by c.args.store.now s1 came c.in_err-migrate_and_settle.ensures.sessions)

pub returns-in_err-add_agreed-clause-sessions : goal.returns-in_err-add_agreed-clause-sessions
returns-in_err-add_agreed-clause-sessions g c =
    let came = c.in_err-add_agreed.field-0.0 in
    let s1 = c.migrate_and_settle.new.store in
    let s2 = c.add_agreed.new.store in
    leaves_on c.from_residual-in_err-add_agreed.result came
    c.from_residual-in_err-add_agreed.ensures.1 c.args.store.now s2
    (leaves_behind c.args.store.now s1 s2 came c.in_ok-migrate_and_settle.ensures.sessions
    (agreed_leaves (g.C.Clients.meaning c.args.clients.now) c.args.contact c.args.group.now s1 s2 _ _
    (Err came) c.in_err-add_agreed.ensures.adds))

pub returns-clause-sessions : goal.returns-clause-sessions
returns-clause-sessions g c =
    let s1 = c.migrate_and_settle.new.store in
    let s2 = c.add_agreed.new.store in
    leaves_by c.args.store.now s2 (came_to c.print_text.result)
    (leaves_then c.args.store.now s1 s2 c.in_ok-migrate_and_settle.ensures.sessions
    (agreed_leaves (g.C.Clients.meaning c.args.clients.now) c.args.contact c.args.group.now s1 s2 _ _
    (Ok tt) c.in_ok-add_agreed.ensures.adds))
