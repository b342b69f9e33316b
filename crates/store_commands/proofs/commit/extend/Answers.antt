use Rattle.std.proofs.Common.{Err, ap, subst, ◌∙◌}
use Rattle.outside.proofs.CallSteps.{run_then}
use Rattle.sync_store.specs.Store.{format_meant}
use Rattle.store_commands.specs.declared.commit.Settling.{Settling}
use Rattle.store_commands.specs.declared.commit.Settling.TheVariants as settling
use Rattle.store_commands.specs.Serving.{KeepsSettled}
use Rattle.store_commands.proofs.Adds.{adds, caused_later, follows_settled, settles_only}
use Rattle.store_commands.proofs.Passing.{by_on, leaves_on, serves_on, told_on_error}
use Rattle.store_commands.proofs.Serving.{anew_stays_so, serves_by}
use Rattle.store_commands.proofs.Sessions.{leaves_behind, leaves_by}
use Rattle.sync_words.specs.Outcomes.{came_to}
use Rattle.store_commands.proofs.commit.extend.Goals as goal

pub returns-in_err-migrate_and_settle-clause-told : goal.returns-in_err-migrate_and_settle-clause-told
returns-in_err-migrate_and_settle-clause-told g c = λ two files j fits.
    let clients = g.C.Clients.meaning c.args.clients.now in
    let came = c.in_err-migrate_and_settle.field-0.0 in
    told_on_error c.from_residual.result came c.from_residual.ensures.1 clients c.args.settling j
    c.args.batch two _ _
    (settles_only clients _ _ c.args.store.now _ c.args.batch c.args.settling came two j files fits
    (λ is. ap g.D.Disk.tells (c.in_err-migrate_and_settle.ensures.untouched (ap Err is)))
    c.in_err-migrate_and_settle.ensures.settled)

pub returns-in_err-migrate_and_settle-clause-by : goal.returns-in_err-migrate_and_settle-clause-by
returns-in_err-migrate_and_settle-clause-by g c =
    by_on c.from_residual.result c.in_err-migrate_and_settle.field-0.0 c.from_residual.ensures.1
    (g.D.Disk.tells c.args.disk.now) (g.D.Disk.tells c.migrate_and_settle.new.disk)
    c.in_err-migrate_and_settle.ensures.by

pub commit-requires-clause-allowed : goal.commit-requires-clause-allowed
commit-requires-clause-allowed g c =
    follows_settled (g.C.Clients.meaning c.args.clients.now) _ _ c.args.store.now _ c.args.batch _
    c.requires.follows c.in_ok-migrate_and_settle.ensures.settled

pub returns-in-Before-clause-by : goal.returns-in-Before-clause-by
returns-in-Before-clause-by g c =
    caused_later (g.D.Disk.tells c.args.disk.now) (g.D.Disk.tells c.migrate_and_settle.new.disk)
    (g.D.Disk.tells c.commit.new.disk) c.commit.result
    c.in_ok-migrate_and_settle.ensures.run.later c.commit.ensures.by

pub returns-in-Before-clause-told : goal.returns-in-Before-clause-told
returns-in-Before-clause-told g c = λ two files j fits.
    adds (g.C.Clients.meaning c.args.clients.now) c.args.settling settling.Before _ _ _
    c.args.store.now _ _ c.args.batch _ c.commit.result two j c.in-Before.is files fits
    c.requires.ready.limited c.in_ok-migrate_and_settle.ensures.run
    c.in_ok-migrate_and_settle.ensures.settled c.commit.ensures.added

pub commit_settled-requires-clause-allowed : goal.commit_settled-requires-clause-allowed
commit_settled-requires-clause-allowed g c =
    follows_settled (g.C.Clients.meaning c.args.clients.now) _ _ c.args.store.now _ c.args.batch _
    c.requires.follows c.in_ok-migrate_and_settle.ensures.settled

pub returns-in-BeforeAndAfter-clause-by : goal.returns-in-BeforeAndAfter-clause-by
returns-in-BeforeAndAfter-clause-by g c =
    caused_later (g.D.Disk.tells c.args.disk.now) (g.D.Disk.tells c.migrate_and_settle.new.disk)
    (g.D.Disk.tells c.commit_settled.new.disk) c.commit_settled.result
    c.in_ok-migrate_and_settle.ensures.run.later
    c.commit_settled.ensures.by

pub returns-in-BeforeAndAfter-clause-told : goal.returns-in-BeforeAndAfter-clause-told
returns-in-BeforeAndAfter-clause-told g c = λ two files j fits.
    adds (g.C.Clients.meaning c.args.clients.now) c.args.settling settling.BeforeAndAfter _ _ _
    c.args.store.now _ _ c.args.batch _ c.commit_settled.result two j c.in-BeforeAndAfter.is
    files fits c.requires.ready.limited c.in_ok-migrate_and_settle.ensures.run
    c.in_ok-migrate_and_settle.ensures.settled c.commit_settled.ensures.added

pub returns-in_err-migrate_and_settle-clause-serves : goal.returns-in_err-migrate_and_settle-clause-serves
returns-in_err-migrate_and_settle-clause-serves g c served keeps =
    let clients = g.C.Clients.meaning c.args.clients.now in
    let came = c.in_err-migrate_and_settle.field-0.0 in
    let settled = c.in_err-migrate_and_settle.ensures.settled in
    let s1 = c.migrate_and_settle.new.store in
    let o1 = g.D.Disk.tells c.migrate_and_settle.new.disk in
    serves_on c.from_residual.result came c.from_residual.ensures.1 clients s1 o1
    (serves_by clients s1 o1 (g.D.Disk.tells c.args.disk.now) (Err came)
    (settled.comes.limit ∙ c.requires.ready.limited) (settled.comes.short served.ready.short)
    c.in_err-migrate_and_settle.ensures.stays
    (anew_stays_so clients c.args.store.now s1 (Err came) served.ready.short settled.answer)
    c.in_err-migrate_and_settle.ensures.by)

pub returns-in-Before-clause-serves : goal.returns-in-Before-clause-serves
returns-in-Before-clause-serves g c served keeps =
    let clients = g.C.Clients.meaning c.args.clients.now in
    let settled = c.in_ok-migrate_and_settle.ensures.settled in
    let added = c.commit.ensures.added in
    serves_by clients c.commit.new.store (g.D.Disk.tells c.commit.new.disk)
    (g.D.Disk.tells c.migrate_and_settle.new.disk) c.commit.result
    (added.limit ∙ settled.comes.limit ∙ c.requires.ready.limited)
    (ap format_meant added.format ∙ settled.answer.2) c.commit.ensures.stays
    (c.commit.ensures.settled settled.answer.1
    (subst (λ (s : Settling). KeepsSettled s c.args.batch) c.in-Before.is keeps))
    c.commit.ensures.by

pub returns-in-BeforeAndAfter-clause-serves : goal.returns-in-BeforeAndAfter-clause-serves
returns-in-BeforeAndAfter-clause-serves g c served keeps =
    let clients = g.C.Clients.meaning c.args.clients.now in
    let settled = c.in_ok-migrate_and_settle.ensures.settled in
    let added = c.commit_settled.ensures.added in
    serves_by clients c.commit_settled.new.store (g.D.Disk.tells c.commit_settled.new.disk)
    (g.D.Disk.tells c.migrate_and_settle.new.disk) c.commit_settled.result
    (added.limit ∙ settled.comes.limit ∙ c.requires.ready.limited)
    (ap format_meant added.format ∙ settled.answer.2) c.commit_settled.ensures.stays
    (c.commit_settled.ensures.settled settled.answer.1 tt) c.commit_settled.ensures.by

pub returns-in-Before-clause-run : goal.returns-in-Before-clause-run
returns-in-Before-clause-run g c =
    run_then (g.D.Disk.tells c.args.disk.now) (g.D.Disk.tells c.migrate_and_settle.new.disk)
    (g.D.Disk.tells c.commit.new.disk) c.in_ok-migrate_and_settle.ensures.run c.commit.ensures.run

pub returns-in-BeforeAndAfter-clause-run : goal.returns-in-BeforeAndAfter-clause-run
returns-in-BeforeAndAfter-clause-run g c =
    run_then (g.D.Disk.tells c.args.disk.now) (g.D.Disk.tells c.migrate_and_settle.new.disk)
    (g.D.Disk.tells c.commit_settled.new.disk) c.in_ok-migrate_and_settle.ensures.run
    c.commit_settled.ensures.run

pub returns-in_err-migrate_and_settle-clause-sessions : goal.returns-in_err-migrate_and_settle-clause-sessions
returns-in_err-migrate_and_settle-clause-sessions g c none =
    let came = c.in_err-migrate_and_settle.field-0.0 in
    let s1 = c.migrate_and_settle.new.store in
    leaves_on c.from_residual.result came c.from_residual.ensures.1 c.args.store.now s1
    (leaves_by c.args.store.now s1 came c.in_err-migrate_and_settle.ensures.sessions)

pub returns-in-Before-clause-sessions : goal.returns-in-Before-clause-sessions
returns-in-Before-clause-sessions g c none =
    leaves_behind c.args.store.now c.migrate_and_settle.new.store c.commit.new.store
    (came_to c.commit.result) c.in_ok-migrate_and_settle.ensures.sessions
    (c.commit.ensures.sessions none)

pub returns-in-BeforeAndAfter-clause-sessions : goal.returns-in-BeforeAndAfter-clause-sessions
returns-in-BeforeAndAfter-clause-sessions g c none =
    leaves_behind c.args.store.now c.migrate_and_settle.new.store c.commit_settled.new.store
    (came_to c.commit_settled.result) c.in_ok-migrate_and_settle.ensures.sessions
    (c.commit_settled.ensures.sessions none)
