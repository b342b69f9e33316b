use Rattle.std.proofs.Common.{refl}
use Rattle.sync_rules.specs.declared.entries.Entry.TheVariants as entry
use Rattle.store_commands.specs.declared.commit.Settling.TheVariants as settling
use Rattle.store_commands.proofs.EntryLemmas.{added_entry}
use Rattle.store_commands.proofs.Passing.{added_on, leaves_on, serves_on}
use Rattle.store_commands.proofs.Serving.{serves_unplanned}
use Rattle.sharing_commands.specs.Sayings.{say_plan}
use Rattle.sharing_commands.proofs.Said.{said_fault, say_follows}
use Rattle.store_commands.proofs.Sessions.{leaves_by, leaves_itself}
use Rattle.sharing_commands.proofs.saying.say_loaded.Goals as goal

pub returns-in_err-post-clause-said : goal.returns-in_err-post-clause-said
returns-in_err-post-clause-said g c start was =
    let clients = g.C.Clients.meaning c.args.clients.now in
    let plan = say_plan clients c.args.speech in
    added_on c.from_residual.result c.in_err-post.field-0.0
    c.from_residual.ensures.1 clients plan settling.BeforeAndAfter _ _ _ _
    (said_fault clients plan _ _ _ _ c.args.store.now was.run
    was.rests was.facts
    (record { same = refl; same_faults = refl }) c.in_err-post.field-0.0 c.in_err-post.ensures)

pub add_entry-requires-clause-follows : goal.add_entry-requires-clause-follows
add_entry-requires-clause-follows g c =
    (say_follows (g.C.Clients.meaning c.args.clients.now) c.args.store.now.state.facts
    c.args.speech (entry.Author c.in_ok-post.post.message) c.in_ok-post.ensures.0).follows

pub add_entry-requires-clause-kind : goal.add_entry-requires-clause-kind
add_entry-requires-clause-kind g c =
    (say_follows (g.C.Clients.meaning c.args.clients.now) c.args.store.now.state.facts
    c.args.speech (entry.Author c.in_ok-post.post.message) c.in_ok-post.ensures.0).kind

pub add_entry-requires-clause-plain : goal.add_entry-requires-clause-plain
add_entry-requires-clause-plain g c =
    (say_follows (g.C.Clients.meaning c.args.clients.now) c.args.store.now.state.facts
    c.args.speech (entry.Author c.in_ok-post.post.message) c.in_ok-post.ensures.0).plain

pub add_entry-requires-clause-named : goal.add_entry-requires-clause-named
add_entry-requires-clause-named g c = (c.in_ok-post.ensures.1, tt)

pub returns-clause-said : goal.returns-clause-said
returns-clause-said g c start was =
    let clients = g.C.Clients.meaning c.args.clients.now in
    added_entry clients (say_plan clients c.args.speech) settling.BeforeAndAfter _ _ _ _ _
    c.args.store.now (entry.Author c.in_ok-post.post.message) _ was.run
    was.rests was.opened c.in_ok-post.ensures.0
    c.add_entry.ensures.added

pub returns-in_err-post-clause-serves : goal.returns-in_err-post-clause-serves
returns-in_err-post-clause-serves g c served =
    let clients = g.C.Clients.meaning c.args.clients.now in
    serves_on c.from_residual.result c.in_err-post.field-0.0 c.from_residual.ensures.1 clients
    c.args.store.now (g.D.Disk.tells c.args.disk.now)
    (serves_unplanned clients c.args.store.now (g.D.Disk.tells c.args.disk.now) _
    c.in_err-post.field-0.0 served c.in_err-post.ensures)

pub returns-clause-serves : goal.returns-clause-serves
returns-clause-serves g c served = c.add_entry.ensures.serves served tt

pub returns-in_err-post-clause-sessions : goal.returns-in_err-post-clause-sessions
returns-in_err-post-clause-sessions g c =
    let came = c.in_err-post.field-0.0 in
    let s = c.args.store.now in
    leaves_on c.from_residual.result came c.from_residual.ensures.1 s s
    (leaves_by s s came (leaves_itself s))

pub returns-clause-sessions : goal.returns-clause-sessions
returns-clause-sessions g c =
    c.add_entry.ensures.sessions refl
