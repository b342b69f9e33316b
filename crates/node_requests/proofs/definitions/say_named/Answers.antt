use Rattle.std.proofs.Common.{refl, subst}
use Rattle.sync_ids.specs.Values.{GroupValue}
use Rattle.sync_words.specs.declared.outcome.Outcome.TheVariants as outcome
use Rattle.store_commands.specs.declared.commit.Settling.TheVariants as settling
use Rattle.sync_rules.specs.Facts.{Facts}
use Rattle.sync_words.specs.Outcomes.{came_to}
use Rattle.store_commands.specs.Entries.{HasAdded}
use Rattle.store_commands.specs.Plans.{EntryPlan}
use Rattle.store_commands.proofs.Passing.{added_on, leaves_on, serves_on}
use Rattle.sharing_commands.specs.Sayings.{say_plan}
use Rattle.node_requests.specs.Requests.{group_named, speech_of}
use Rattle.node_requests.proofs.Served.{memory_added}
use Rattle.store_commands.proofs.Sessions.{leaves_itself}
use Rattle.node_requests.proofs.definitions.say_named.Goals as goal

pub returns-in_err-def-clause-said : goal.returns-in_err-def-clause-said
returns-in_err-def-clause-said g c =
    let clients = g.C.Clients.meaning c.args.clients.now in
    let plan : Facts → EntryPlan =
    (say_plan clients (speech_of c.args.group c.args.timestamp c.args.join (group_named c.args.name.now c.args.major c.args.descriptor.now))) in
    added_on c.from_residual.result outcome.Memory c.from_residual.ensures.1 clients plan
    settling.BeforeAndAfter _ _ _ _
    (memory_added clients c.args.store.now (g.D.Disk.tells c.args.disk.now) plan settling.BeforeAndAfter _ _
    c.requires.served (record { same = refl; same_faults = refl }))

pub returns-in_err-def-clause-serves : goal.returns-in_err-def-clause-serves
returns-in_err-def-clause-serves g c =
    serves_on c.from_residual.result outcome.Memory c.from_residual.ensures.1
    (g.C.Clients.meaning c.args.clients.now) c.args.store.now (g.D.Disk.tells c.args.disk.now)
    c.requires.served.ready

pub returns-clause-said : goal.returns-clause-said
returns-clause-said g c =
    let clients = g.C.Clients.meaning c.args.clients.now in
    subst (λ (d : GroupValue). HasAdded clients
    (say_plan clients (speech_of c.args.group c.args.timestamp c.args.join d)) settling.BeforeAndAfter
    (g.D.Disk.tells c.args.disk.now) (g.D.Disk.tells c.say_loaded.new.disk)
    (g.W.Sink.tells c.args.out.now) (g.W.Sink.tells c.say_loaded.new.out)
    (came_to c.say_loaded.result)) c.in_ok-def.ensures
    (c.say_loaded.ensures.said c.args.disk.now c.requires.served.ready.loaded)

pub returns-clause-serves : goal.returns-clause-serves
returns-clause-serves g c = c.say_loaded.ensures.serves c.requires.served

pub returns-in_err-def-clause-sessions : goal.returns-in_err-def-clause-sessions
returns-in_err-def-clause-sessions g c =
    leaves_on c.from_residual.result outcome.Memory c.from_residual.ensures.1 c.args.store.now
    c.args.store.now (leaves_itself c.args.store.now)
