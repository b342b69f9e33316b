use Rattle.std.proofs.Common.{[], ◌∙◌}
use Rattle.store_commands.proofs.Adds.{caused_later}
use Rattle.store_commands.proofs.Migrates.{comes_settled, migrated_anew_err, settled_anew}
use Rattle.store_commands.proofs.Migrates.{settled_unfull}
use Rattle.store_commands.proofs.Passing.{anew_on, by_on, full_on, ready_on}
use Rattle.store_commands.proofs.Serving.{served_ok}
use Rattle.store_commands.proofs.Sessions.{leaves_at, leaves_then, settling_leaves}
use Rattle.store_commands.proofs.commit.migrate_and_settle.Goals as goal

pub returns-in_err-migrate-clause-by : goal.returns-in_err-migrate-clause-by
returns-in_err-migrate-clause-by g c =
    by_on c.from_residual.result c.in_err-migrate.field-0.0 c.from_residual.ensures.1
    (g.D.Disk.tells c.args.disk.now) (g.D.Disk.tells c.migrate.new.disk)
    c.in_err-migrate.ensures.by

pub returns-in_err-migrate-clause-settled : goal.returns-in_err-migrate-clause-settled
returns-in_err-migrate-clause-settled g c =
    let clients = g.C.Clients.meaning c.args.clients.now in
    let came = c.in_err-migrate.field-0.0 in
    let migrated = c.in_err-migrate.ensures.migrated in
    anew_on c.from_residual.result came c.from_residual.ensures.1 clients c.args.store.now
    c.migrate.new.store (g.D.Disk.tells c.args.disk.now) (g.D.Disk.tells c.migrate.new.disk)
    (record {
      more = [];
      comes = migrated.comes;
      filled = tt;
      answer = migrated_anew_err clients c.args.store.now c.migrate.new.store came migrated.answer;
    })

pub returns-in_err-migrate-clause-untouched : goal.returns-in_err-migrate-clause-untouched
returns-in_err-migrate-clause-untouched g c =
    full_on c.from_residual.result c.in_err-migrate.field-0.0 c.from_residual.ensures.1 _
    c.in_err-migrate.ensures.untouched

pub returns-in_err-migrate-clause-stays : goal.returns-in_err-migrate-clause-stays
returns-in_err-migrate-clause-stays g c =
    ready_on c.from_residual.result c.in_err-migrate.field-0.0 c.from_residual.ensures.1
    (g.C.Clients.meaning c.args.clients.now) c.migrate.new.store
    (g.D.Disk.tells c.migrate.new.disk).files
    c.in_err-migrate.ensures.stays

pub returns-clause-by : goal.returns-clause-by
returns-clause-by g c =
    caused_later (g.D.Disk.tells c.args.disk.now) (g.D.Disk.tells c.migrate.new.disk)
    (g.D.Disk.tells c.settle_loaded.new.disk) c.settle_loaded.result c.in_ok-migrate.ensures.run.later
    c.settle_loaded.ensures.by

pub returns-clause-settled : goal.returns-clause-settled
returns-clause-settled g c =
    let clients = g.C.Clients.meaning c.args.clients.now in
    let s = c.args.store.now in
    let s1 = c.migrate.new.store in
    let s2 = c.settle_loaded.new.store in
    let migrated = c.in_ok-migrate.ensures.migrated in
    let settled = c.settle_loaded.ensures.settled in
    record {
      more = settled.more;
      comes =
          comes_settled clients s s1 s2 (g.D.Disk.tells c.args.disk.now)
          (g.D.Disk.tells c.migrate.new.disk) (g.D.Disk.tells c.settle_loaded.new.disk) _
          c.settle_loaded.result migrated.answer.0
          c.in_ok-migrate.ensures.run migrated settled;
      filled = settled.filled;
      answer = settled_anew clients s s1 s2 _ c.settle_loaded.result migrated.answer settled.comes.format
          settled.comes.generation settled.comes.file settled.answer;
    }

pub returns-clause-untouched : goal.returns-clause-untouched
returns-clause-untouched g c full =
    absurd (settled_unfull (g.C.Clients.meaning c.args.clients.now) c.settle_loaded.new.store
    c.settle_loaded.result c.settle_loaded.ensures.settled.answer full)

pub returns-clause-serves : goal.returns-clause-serves
returns-clause-serves g c limit =
    let clients = g.C.Clients.meaning c.args.clients.now in
    let s = c.args.store.now in
    let s1 = c.migrate.new.store in
    let s2 = c.settle_loaded.new.store in
    let migrated = c.in_ok-migrate.ensures.migrated in
    let settled = c.settle_loaded.ensures.settled in
    served_ok clients s s2 (g.D.Disk.tells c.settle_loaded.new.disk) c.settle_loaded.result
    (settled.comes.limit ∙ migrated.comes.limit ∙ limit) c.settle_loaded.ensures.stays
    (settled_anew clients s s1 s2 _ c.settle_loaded.result migrated.answer settled.comes.format
    settled.comes.generation settled.comes.file settled.answer)

pub returns-in_err-migrate-clause-sessions : goal.returns-in_err-migrate-clause-sessions
returns-in_err-migrate-clause-sessions g c =
    let comes = c.in_err-migrate.ensures.migrated.comes in
    leaves_at c.args.store.now c.migrate.new.store _ comes.facts
    (settling_leaves (g.C.Clients.meaning c.args.clients.now) c.args.store.now.state.facts []
    comes.settling)

pub returns-clause-sessions : goal.returns-clause-sessions
returns-clause-sessions g c =
    let comes = c.in_ok-migrate.ensures.migrated.comes in
    leaves_then c.args.store.now c.migrate.new.store c.settle_loaded.new.store
    (leaves_at c.args.store.now c.migrate.new.store _ comes.facts
    (settling_leaves (g.C.Clients.meaning c.args.clients.now) c.args.store.now.state.facts []
    comes.settling)) c.settle_loaded.ensures.sessions
