use Rattle.std.proofs.Common.{refl, ap, ◌∙◌, inr, Ok, Err}
use Rattle.sync_store.specs.Store.{StoreValue}
use Rattle.sync_store.specs.declared.fault.StoreFault.TheVariants as fault
use Rattle.store_commands.proofs.Migrates.{comes_migrated, migrated_ok}
use Rattle.store_commands.proofs.commit.migrate.Goals as goal

pub returns-in-Ok-clause-migrated : goal.returns-in-Ok-clause-migrated
returns-in-Ok-clause-migrated g c =
    let s = c.args.store.now in
    let s' = c.migrate.new.self in
    let has = c.in-Ok.ensures.migrated c.requires.ready.still_open in
    record {
      comes = comes_migrated (g.C.Clients.meaning c.args.clients.now) s s' (Ok tt)
          (g.D.Disk.tells c.args.disk.now) (g.D.Disk.tells c.migrate.new.disk) has;
      answer = migrated_ok s s' tt c.requires.ready.still_open has.answer;
    }

pub returns-in-Ok-clause-ready : goal.returns-in-Ok-clause-ready
returns-in-Ok-clause-ready g c =
    c.in-Ok.ensures.ready
    (migrated_ok c.args.store.now c.migrate.new.self tt c.requires.ready.still_open
    (c.in-Ok.ensures.migrated c.requires.ready.still_open).answer).0

pub returns-in-Ok-clause-stays : goal.returns-in-Ok-clause-stays
returns-in-Ok-clause-stays g c =
    c.in-Ok.ensures.ready
    (migrated_ok c.args.store.now c.migrate.new.self tt c.requires.ready.still_open
    (c.in-Ok.ensures.migrated c.requires.ready.still_open).answer).0

pub returns-in-Err-Full-clause-migrated : goal.returns-in-Err-Full-clause-migrated
returns-in-Err-Full-clause-migrated g c =
    let has = rw c.in-Err-Full.field-0-is at c.in-Err-Full.ensures.migrated
    c.requires.ready.still_open in
    record {
      comes = comes_migrated (g.C.Clients.meaning c.args.clients.now) c.args.store.now
          c.migrate.new.self (Err fault.Full) (g.D.Disk.tells c.args.disk.now)
          (g.D.Disk.tells c.migrate.new.disk) has;
      answer = has.answer;
    }

pub returns-in-Err-Full-clause-untouched : goal.returns-in-Err-Full-clause-untouched
returns-in-Err-Full-clause-untouched g c is =
    let has = rw c.in-Err-Full.field-0-is at c.in-Err-Full.ensures.migrated
    c.requires.ready.still_open in
    c.in-Err-Full.ensures.untouched (inr has.answer.0)

pub returns-in-Err-Full-clause-stays : goal.returns-in-Err-Full-clause-stays
returns-in-Err-Full-clause-stays g c =
    let has = rw c.in-Err-Full.field-0-is at c.in-Err-Full.ensures.migrated
    c.requires.ready.still_open in
    c.in-Err-Full.ensures.ready (ap (λ (v : StoreValue). v.closed) has.answer.1
    ∙ c.requires.ready.still_open)

pub returns-in-Err-Memory-clause-migrated : goal.returns-in-Err-Memory-clause-migrated
returns-in-Err-Memory-clause-migrated g c =
    let has = rw c.in-Err-Memory.field-0-is at c.in-Err-Memory.ensures.migrated
    c.requires.ready.still_open in
    record {
      comes = comes_migrated (g.C.Clients.meaning c.args.clients.now) c.args.store.now
          c.migrate.new.self (Err fault.Memory) (g.D.Disk.tells c.args.disk.now)
          (g.D.Disk.tells c.migrate.new.disk) has;
      answer = tt;
    }

pub returns-in-Err-Memory-clause-stays : goal.returns-in-Err-Memory-clause-stays
returns-in-Err-Memory-clause-stays g c =
    let has = rw c.in-Err-Memory.field-0-is at c.in-Err-Memory.ensures.migrated
    c.requires.ready.still_open in
    c.in-Err-Memory.ensures.ready (ap (λ (v : StoreValue). v.closed) has.answer.1
    ∙ c.requires.ready.still_open)

pub returns-in-Err-DiskFault-clause-migrated : goal.returns-in-Err-DiskFault-clause-migrated
returns-in-Err-DiskFault-clause-migrated g c =
    let has = rw c.in-Err-DiskFault.field-0-is at c.in-Err-DiskFault.ensures.migrated
    c.requires.ready.still_open in
    record {
      comes = comes_migrated (g.C.Clients.meaning c.args.clients.now) c.args.store.now
          c.migrate.new.self (Err fault.DiskFault) (g.D.Disk.tells c.args.disk.now)
          (g.D.Disk.tells c.migrate.new.disk) has;
      answer = tt;
    }

pub returns-in-Err-DiskFault-clause-by : goal.returns-in-Err-DiskFault-clause-by
returns-in-Err-DiskFault-clause-by g c =
    (rw c.in-Err-DiskFault.field-0-is at c.in-Err-DiskFault.ensures.fault) refl
