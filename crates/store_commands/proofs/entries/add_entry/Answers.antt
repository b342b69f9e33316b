use Rattle.std.proofs.Common.{◌≡◌, true, List, refl, subst, sym, ◌∙◌}
use Rattle.std.specs.List.{list_all}
use Rattle.session_core.specs.Known.{IsOfAll}
use Rattle.sync_rules.specs.declared.entries.Entry.{Entry}
use Rattle.sync_words.specs.declared.outcome.Outcome.TheVariants as outcome
use Rattle.sync_words.specs.Outcomes.{came_to}
use Rattle.store_commands.specs.Serving.{KeepsSettled, begins_none}
use Rattle.store_commands.proofs.Commits.{entry_failed, entry_none, entry_printed}
use Rattle.store_commands.proofs.Passing.{entry_on, leaves_on, serves_on}
use Rattle.store_commands.proofs.Serving.{serves_printed}
use Rattle.store_commands.proofs.Sessions.{alone_begins_none, leaves_by, leaves_itself}
use Rattle.store_commands.proofs.entries.add_entry.Goals as goal

pub returns-in_err-line-clause-added : goal.returns-in_err-line-clause-added
returns-in_err-line-clause-added g c =
    let clients = g.C.Clients.meaning c.args.clients.now in
    entry_on c.from_residual.result outcome.Memory c.from_residual.ensures.1 clients c.args.settling
    c.args.store.now c.args.entry _ _ _ _
    (entry_none clients c.args.settling c.args.store.now c.args.entry _ _ _ outcome.Memory refl
    (record { same = refl; same_faults = refl }))

pub returns-in_err-line-clause-serves : goal.returns-in_err-line-clause-serves
returns-in_err-line-clause-serves g c served keeps =
    serves_on c.from_residual.result outcome.Memory c.from_residual.ensures.1
    (g.C.Clients.meaning c.args.clients.now) c.args.store.now (g.D.Disk.tells c.args.disk.now)
    served.ready

pub returns-in_err-batch-clause-added : goal.returns-in_err-batch-clause-added
returns-in_err-batch-clause-added g c =
    let clients = g.C.Clients.meaning c.args.clients.now in
    entry_on c.from_residual-in_err-batch.result outcome.Memory
    c.from_residual-in_err-batch.ensures.1 clients c.args.settling c.args.store.now c.args.entry _ _
    _ _
    (entry_none clients c.args.settling c.args.store.now c.args.entry _ _ _ outcome.Memory refl
    (record { same = refl; same_faults = refl }))

pub returns-in_err-batch-clause-serves : goal.returns-in_err-batch-clause-serves
returns-in_err-batch-clause-serves g c served keeps =
    serves_on c.from_residual-in_err-batch.result outcome.Memory
    c.from_residual-in_err-batch.ensures.1 (g.C.Clients.meaning c.args.clients.now)
    c.args.store.now (g.D.Disk.tells c.args.disk.now) served.ready

pub returns-in_err-extend-clause-added : goal.returns-in_err-extend-clause-added
returns-in_err-extend-clause-added g c =
    let clients = g.C.Clients.meaning c.args.clients.now in
    let came = c.in_err-extend.field-0.0 in
    entry_on c.from_residual-in_err-extend.result came c.from_residual-in_err-extend.ensures.1
    clients c.args.settling c.args.store.now c.args.entry _ _ _ _
    (entry_failed clients c.args.settling c.args.store.now c.args.entry _ _ _ _ c.in_ok-batch.batch
    came c.in_ok-batch.ensures
    (record { same = refl; same_faults = refl }) c.in_err-extend.ensures.run
    c.in_err-extend.ensures.by c.in_err-extend.ensures.told)

pub returns-in_err-extend-clause-serves : goal.returns-in_err-extend-clause-serves
returns-in_err-extend-clause-serves g c served keeps =
    serves_on c.from_residual-in_err-extend.result c.in_err-extend.field-0.0
    c.from_residual-in_err-extend.ensures.1 (g.C.Clients.meaning c.args.clients.now)
    c.extend.new.store (g.D.Disk.tells c.extend.new.disk)
    (c.in_err-extend.ensures.serves served
    (subst (λ (b : List Entry). KeepsSettled c.args.settling b) (sym c.in_ok-batch.ensures) keeps))

pub returns-clause-added : goal.returns-clause-added
returns-clause-added g c =
    entry_printed (g.C.Clients.meaning c.args.clients.now) c.args.settling c.args.store.now
    c.args.entry _ _ _ _ c.as_bytes.result.now c.in_ok-batch.batch _ _
    c.in_ok-batch.ensures (c.as_bytes.ensures.value
    ∙ c.in_ok-line.ensures) c.in_ok-extend.ensures.run c.in_ok-extend.ensures.told
    c.print_bytes.ensures

pub returns-clause-serves : goal.returns-clause-serves
returns-clause-serves g c served keeps =
    serves_printed (g.C.Clients.meaning c.args.clients.now) c.extend.new.store
    (g.D.Disk.tells c.extend.new.disk) c.as_bytes.result.now (g.W.Sink.tells c.args.out.now)
    (g.W.Sink.tells c.print_bytes.new.out) (came_to c.print_bytes.result)
    (c.in_ok-extend.ensures.serves served
    (subst (λ (b : List Entry). KeepsSettled c.args.settling b) (sym c.in_ok-batch.ensures) keeps))
    c.print_bytes.ensures

pub extend-requires-clause-named : goal.extend-requires-clause-named
extend-requires-clause-named g c =
    subst (λ (b : List Entry). IsOfAll c.args.id b) (sym c.in_ok-batch.ensures) c.requires.named

pub returns-in_err-line-clause-sessions : goal.returns-in_err-line-clause-sessions
returns-in_err-line-clause-sessions g c none =
    leaves_on c.from_residual.result outcome.Memory c.from_residual.ensures.1 c.args.store.now
    c.args.store.now (leaves_itself c.args.store.now)

pub returns-in_err-batch-clause-sessions : goal.returns-in_err-batch-clause-sessions
returns-in_err-batch-clause-sessions g c none =
    leaves_on c.from_residual-in_err-batch.result outcome.Memory
    c.from_residual-in_err-batch.ensures.1 c.args.store.now c.args.store.now
    (leaves_itself c.args.store.now)

pub returns-in_err-extend-clause-sessions : goal.returns-in_err-extend-clause-sessions
returns-in_err-extend-clause-sessions g c none =
    leaves_on c.from_residual-in_err-extend.result c.in_err-extend.field-0.0
    c.from_residual-in_err-extend.ensures.1 c.args.store.now c.extend.new.store
    (c.in_err-extend.ensures.sessions
    (subst (λ (b : List Entry). list_all begins_none b ≡ true) (sym c.in_ok-batch.ensures)
    (alone_begins_none c.args.entry none)))

pub returns-clause-sessions : goal.returns-clause-sessions
returns-clause-sessions g c none =
    leaves_by c.args.store.now c.extend.new.store (came_to c.print_bytes.result)
    (c.in_ok-extend.ensures.sessions
    (subst (λ (b : List Entry). list_all begins_none b ≡ true) (sym c.in_ok-batch.ensures)
    (alone_begins_none c.args.entry none)))
