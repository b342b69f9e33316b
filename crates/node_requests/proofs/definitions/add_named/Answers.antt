use Rattle.std.proofs.Common.{refl, subst}
use Rattle.sync_ids.specs.Values.{GroupValue}
use Rattle.sync_words.specs.declared.outcome.Outcome.TheVariants as outcome
use Rattle.store_commands.specs.declared.commit.Settling.TheVariants as settling
use Rattle.sync_rules.specs.Facts.{Facts}
use Rattle.sync_words.specs.Outcomes.{came_to}
use Rattle.store_commands.specs.Entries.{HasAdded}
use Rattle.store_commands.proofs.Passing.{added_on, leaves_on, serves_on}
use Rattle.store_commands.specs.Plans.{EntryPlan, group_plan}
use Rattle.node_requests.specs.Requests.{group_named}
use Rattle.node_requests.proofs.Served.{memory_added}
use Rattle.store_commands.proofs.Sessions.{leaves_itself}
use Rattle.node_requests.proofs.definitions.add_named.Goals as goal

pub returns-in_err-def-clause-added : goal.returns-in_err-def-clause-added
returns-in_err-def-clause-added g c =
    let clients = g.C.Clients.meaning c.args.clients.now in
    let plan : Facts → EntryPlan =
    (λ f. group_plan clients f (group_named c.args.name.now c.args.major c.args.descriptor.now)) in
    added_on c.from_residual.result outcome.Memory c.from_residual.ensures.1 clients plan
    settling.Before _ _ _ _
    (memory_added clients c.args.store.now (g.D.Disk.tells c.args.disk.now) plan settling.Before _ _
    c.requires.served (record { same = refl; same_faults = refl }))

pub returns-in_err-def-clause-serves : goal.returns-in_err-def-clause-serves
returns-in_err-def-clause-serves g c =
    serves_on c.from_residual.result outcome.Memory c.from_residual.ensures.1
    (g.C.Clients.meaning c.args.clients.now) c.args.store.now (g.D.Disk.tells c.args.disk.now)
    c.requires.served.ready

pub returns-clause-added : goal.returns-clause-added
returns-clause-added g c =
    let clients = g.C.Clients.meaning c.args.clients.now in
    subst (λ (d : GroupValue). HasAdded clients (λ f. group_plan clients f d) settling.Before
    (g.D.Disk.tells c.args.disk.now) (g.D.Disk.tells c.add_group_loaded.new.disk)
    (g.W.Sink.tells c.args.out.now) (g.W.Sink.tells c.add_group_loaded.new.out)
    (came_to c.add_group_loaded.result)) c.in_ok-def.ensures
    (c.add_group_loaded.ensures.added c.args.disk.now c.requires.served.ready.loaded)

pub returns-clause-serves : goal.returns-clause-serves
returns-clause-serves g c = c.add_group_loaded.ensures.serves c.requires.served

pub returns-in_err-def-clause-sessions : goal.returns-in_err-def-clause-sessions
returns-in_err-def-clause-sessions g c =
    leaves_on c.from_residual.result outcome.Memory c.from_residual.ensures.1 c.args.store.now
    c.args.store.now (leaves_itself c.args.store.now)
