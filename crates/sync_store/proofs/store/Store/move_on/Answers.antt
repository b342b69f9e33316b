use Rattle.std.proofs.Common.{◌≡◌, ◌+◌, ℕ, [], ◌∷◌, false, true, Ok, Err, inr, refl, sym, ap, ◌∙◌, subst}
use Rattle.outside.specs.Disk.{RelatesTold}
use Rattle.frame_journal.specs.Group.{group_len}
use Rattle.journal_state.specs.Whole.{KnowsJudgements}
use Rattle.journal_migration.specs.Migrating.{KeepsFile}
use Rattle.journal_migration.specs.declared.fault.MigrationFault.{MigrationFault}
use Rattle.sync_store.specs.declared.fault.StoreFault.TheVariants as fault
use Rattle.sync_store.specs.Fitting.{FitsSome}
use Rattle.sync_store.specs.Inside.{value_of}
use Rattle.sync_store.specs.Migrations.{HasMigrated, IsInOldFormat}
use Rattle.sync_store.specs.Store.{StoreValue}
use Rattle.sync_store.proofs.MigrateSteps.{Gives, gives_of, leads_failed, leads_fits, leads_memory}
use Rattle.sync_store.proofs.MigrateSteps.{leads_moved, lies_at, moved_to, moved_with, moves_on, next_of}
use Rattle.sync_store.proofs.store.Store.move_on.Goals as goal

pub returns-in-Ok-clause-migrated : goal.returns-in-Ok-clause-migrated
returns-in-Ok-clause-migrated g c =
    let clients = g.C.Clients.meaning c.args.clients.now in
    let i = value_of c.self.inside in
    let none : i.waiting ≡ 0 ∷ [] = ap (λ (v : StoreValue). v.waiting) c.self.view_is
    ∙ c.requires.ready.none_waits in
    let s = moved_with i i.state c.self.inside.journal in
    let view : s ≡ c.args.self.now =
    sym (lies_at i i.state c.self.inside.journal i.waiting none) ∙ c.self.view_is in
    let n = c.in-Ok.journal in
    let o = g.D.Disk.tells c.args.disk.now in
    let o' = g.D.Disk.tells c.migrate.new.disk in
    let old = subst IsInOldFormat (sym view) c.requires.old in
    let still : s.closed ≡ false = ap (λ (v : StoreValue). v.closed) view
    ∙ c.requires.ready.still_open in
    let next = next_of s n c.file-file.result c.generation-generation.result c.end-end.result
    c.file-file.ensures.value c.generation-generation.ensures
    (c.end-end.ensures.value ∙ sym (ap (λ (v : StoreValue). v.end) view))
    c.in-Ok.ensures.next in
    let gives = gives_of clients s (Ok n) o o' c.file-file.result c.generation-generation.result
    c.file-file.ensures.value c.generation-generation.ensures
    (c.in-Ok.ensures.migrates clients) in
    subst (λ (v : StoreValue). HasMigrated clients v (record i {
      state = i.state;
      file = n.file;
      format = n.format;
      generation = n.generation;
      end = n.end + group_len i.waiting;
    }) (Ok tt) o o') view
    (subst (λ (v : StoreValue). HasMigrated clients s v (Ok tt) o o')
    (sym (lies_at i i.state n i.waiting none))
    (record {
      answer = inr (moves_on s n old still next);
      leads = leads_moved clients s n o o' old next.format_is gives;
      own = subst (λ (k : ℕ). RelatesTold (KeepsFile k) o.files o'.files) c.file-file.ensures.value
          c.in-Ok.ensures.own;
    }))

pub returns-in-Ok-clause-ready : goal.returns-in-Ok-clause-ready
returns-in-Ok-clause-ready g c still =
    let clients = g.C.Clients.meaning c.args.clients.now in
    let i = value_of c.self.inside in
    let none : i.waiting ≡ 0 ∷ [] = ap (λ (v : StoreValue). v.waiting) c.self.view_is
    ∙ c.requires.ready.none_waits in
    let s = moved_with i i.state c.self.inside.journal in
    let view : s ≡ c.args.self.now =
    sym (lies_at i i.state c.self.inside.journal i.waiting none) ∙ c.self.view_is in
    let n = c.in-Ok.journal in
    let o = g.D.Disk.tells c.args.disk.now in
    let o' = g.D.Disk.tells c.migrate.new.disk in
    let old = subst IsInOldFormat (sym view) c.requires.old in
    let gives = gives_of clients s (Ok n) o o' c.file-file.result c.generation-generation.result
    c.file-file.ensures.value c.generation-generation.ensures
    (c.in-Ok.ensures.migrates clients) in
    record {
      still_open = still;
      none_waits = none;
      knows = subst (λ (v : StoreValue). KnowsJudgements clients v.state) (sym view)
          c.requires.ready.knows;
      fits =
          subst (λ (v : StoreValue). FitsSome clients v o'.files)
          (sym (lies_at i i.state n i.waiting none))
          (leads_fits clients s (moved_to s n) o o' c.in-Ok.ensures.run
          (leads_moved clients s n o o' old c.in-Ok.ensures.next.format_is gives)
          (subst (λ (v : StoreValue). FitsSome clients v o.files) (sym view)
          c.requires.ready.fits) still);
    }

pub returns-in-Err-Memory-clause-migrated : goal.returns-in-Err-Memory-clause-migrated
returns-in-Err-Memory-clause-migrated g c =
    let clients = g.C.Clients.meaning c.args.clients.now in
    let i = value_of c.self.inside in
    let none : i.waiting ≡ 0 ∷ [] = ap (λ (v : StoreValue). v.waiting) c.self.view_is
    ∙ c.requires.ready.none_waits in
    let s = moved_with i i.state c.self.inside.journal in
    let view : s ≡ c.args.self.now =
    sym (lies_at i i.state c.self.inside.journal i.waiting none) ∙ c.self.view_is in
    let o = g.D.Disk.tells c.args.disk.now in
    let o' = g.D.Disk.tells c.migrate.new.disk in
    let old = subst IsInOldFormat (sym view) c.requires.old in
    let gives = gives_of clients s (Err c.in-Err-Memory.field-0) o o' c.file-file.result
    c.generation-generation.result c.file-file.ensures.value c.generation-generation.ensures
    (c.in-Err-Memory.ensures.migrates clients) in
    let own : RelatesTold (KeepsFile c.file-file.result) o.files o'.files =
    rw c.in-Err-Memory.field-0-is at c.in-Err-Memory.ensures.own in
    subst (λ (v : StoreValue). HasMigrated clients v v (Err fault.Memory) o o') view
    (record {
      answer = (old, refl);
      leads =
          leads_memory clients s o o' old
          (subst (λ file. RelatesTold (KeepsFile file) o.files o'.files)
          c.file-file.ensures.value own)
          (subst (λ (e : MigrationFault). Gives clients s (Err e) o o') c.in-Err-Memory.field-0-is
          gives);
      own = subst (λ (k : ℕ). RelatesTold (KeepsFile k) o.files o'.files) c.file-file.ensures.value
          own;
    })

pub returns-in-Err-Memory-clause-ready : goal.returns-in-Err-Memory-clause-ready
returns-in-Err-Memory-clause-ready g c still =
    let clients = g.C.Clients.meaning c.args.clients.now in
    let i = value_of c.self.inside in
    let none : i.waiting ≡ 0 ∷ [] = ap (λ (v : StoreValue). v.waiting) c.self.view_is
    ∙ c.requires.ready.none_waits in
    let s = moved_with i i.state c.self.inside.journal in
    let view : s ≡ c.args.self.now =
    sym (lies_at i i.state c.self.inside.journal i.waiting none) ∙ c.self.view_is in
    let o = g.D.Disk.tells c.args.disk.now in
    let o' = g.D.Disk.tells c.migrate.new.disk in
    let old = subst IsInOldFormat (sym view) c.requires.old in
    let gives = gives_of clients s (Err c.in-Err-Memory.field-0) o o' c.file-file.result
    c.generation-generation.result c.file-file.ensures.value c.generation-generation.ensures
    (c.in-Err-Memory.ensures.migrates clients) in
    let own : RelatesTold (KeepsFile c.file-file.result) o.files o'.files =
    rw c.in-Err-Memory.field-0-is at c.in-Err-Memory.ensures.own in
    let leads =
    leads_memory clients s o o' old
    (subst (λ file. RelatesTold (KeepsFile file) o.files o'.files) c.file-file.ensures.value
    own)
    (subst (λ (e : MigrationFault). Gives clients s (Err e) o o') c.in-Err-Memory.field-0-is
    gives) in
    record {
      still_open = still;
      none_waits = c.requires.ready.none_waits;
      knows = c.requires.ready.knows;
      fits =
          subst (λ (v : StoreValue). FitsSome clients v o'.files) view
          (leads_fits clients s s o o' c.in-Err-Memory.ensures.run leads
          (subst (λ (v : StoreValue). FitsSome clients v o.files) (sym view)
          c.requires.ready.fits)
          (ap (λ (v : StoreValue). v.closed) view ∙ still));
    }

pub returns-in-Err-DiskFault-clause-migrated : goal.returns-in-Err-DiskFault-clause-migrated
returns-in-Err-DiskFault-clause-migrated g c =
    let clients = g.C.Clients.meaning c.args.clients.now in
    let i = value_of c.self.inside in
    let none : i.waiting ≡ 0 ∷ [] = ap (λ (v : StoreValue). v.waiting) c.self.view_is
    ∙ c.requires.ready.none_waits in
    let s = moved_with i i.state c.self.inside.journal in
    let view : s ≡ c.args.self.now =
    sym (lies_at i i.state c.self.inside.journal i.waiting none) ∙ c.self.view_is in
    let new : StoreValue = record i { closed = true } in
    let o = g.D.Disk.tells c.args.disk.now in
    let o' = g.D.Disk.tells c.migrate.new.disk in
    let old = subst IsInOldFormat (sym view) c.requires.old in
    let gives = gives_of clients s (Err c.in-Err-DiskFault.field-0) o o' c.file-file.result
    c.generation-generation.result c.file-file.ensures.value c.generation-generation.ensures
    (c.in-Err-DiskFault.ensures.migrates clients) in
    subst (λ (v : StoreValue). HasMigrated clients v new (Err fault.DiskFault) o o') view
    (record {
      answer = (
        old,
        ap (λ (v : StoreValue). record v { closed = true })
            (lies_at i i.state c.self.inside.journal i.waiting none),
      );
      leads =
          leads_failed clients s new o o' old refl
          (subst (λ (e : MigrationFault). Gives clients s (Err e) o o')
          c.in-Err-DiskFault.field-0-is gives);
      own = tt;
    })
