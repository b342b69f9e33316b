-- A migration, call by call.
use Rattle.std.proofs.Common.{◌≡◌, ℕ, ◌+◌, ◌^◌, ◌<◌, List, Some, Result, Ok, Err, sym, subst, ◌∙◌}
use Rattle.outside.specs.Disk.{RelatesTold}
use Rattle.outside.specs.Files.{Two, File, file_of}
use Rattle.outside.specs.Outside.{DiskRun, OnlyReads, Outside}
use Rattle.outside.specs.Steps.{PassedMoments}
use Rattle.outside.proofs.CallSteps.{becomes_told}
use Rattle.frame_journal.specs.Create.{PublishesHeader, ShutOrOpened}
use Rattle.frame_journal.specs.Journal.{JournalValue}
use Rattle.sync_rules.specs.declared.entries.Entry.{Entry}
use Rattle.sync_rules.specs.Clients.{Meaning}
use Rattle.sync_rules.specs.Facts.{Facts}
use Rattle.journal_migration.specs.Cited.{MigrationLaws}
use Rattle.journal_migration.specs.Copying.{CopiesBatches, CopiesAll, CopiesAllSo, CopiesWhole}
use Rattle.journal_migration.specs.Copying.{IsPair}
use Rattle.journal_migration.specs.Migrating.{HoldsFirst, KeepsJournal, MigratesJournal}
use Rattle.journal_migration.specs.Migrating.{FilesHoldMigrated}
use Rattle.journal_migration.specs.declared.fault.MigrationFault.{MigrationFault}
use Rattle.journal_migration.specs.declared.fault.MigrationFault.TheVariants as fault
use Rattle.journal_migration.proofs.Keeping.{keeps_looks, keeps_map, keeps_then}
use Rattle.journal_migration.proofs.Published.{opening_still, second_so}

-- where the files are as before every fault says so
pub fault_holds : (clients : Meaning) (file generation : ℕ) (j : List (List Entry))
    (e : MigrationFault) (two : Two File) → HoldsFirst clients file generation j two
    → FilesHoldMigrated clients file generation j (Err e) two
fault_holds clients file generation j fault.Memory two holds = holds
fault_holds clients file generation j fault.DiskFault two holds = tt

-- only reads
pub looked_so : (clients : Meaning) (file generation : ℕ) (j : List (List Entry)) (o o' : Outside)
    (two : Two File) → o.files ≡ Some two → file < 2 → HoldsFirst clients file generation j two
    → OnlyReads o o'
    → (e : MigrationFault) (result : Result JournalValue MigrationFault) → result ≡ Err e
    → MigratesJournal clients file generation j o o' result
looked_so clients file generation j o o' two told few holds looks e result is =
    subst (λ (x : Result JournalValue MigrationFault).
    MigratesJournal clients file generation j o o' x) (sym is)
    (keeps_map clients j (λ t. t ≡ two) (FilesHoldMigrated clients file generation j (Err e)) o o'
    (λ t same. fault_holds clients file generation j e t
    (subst (HoldsFirst clients file generation j) (sym same) holds))
    (keeps_looks clients j file generation o o' two few holds told looks))

copied_fault : (clients : Meaning) (file generation : ℕ) (j : List (List Entry))
    (r n : JournalValue) (e : MigrationFault) (two : Two File)
    → CopiesAllSo clients generation j file r n (Err e) two
    → FilesHoldMigrated clients file generation j (Err e) two
copied_fault clients file generation j r n fault.Memory two so = so
copied_fault clients file generation j r n fault.DiskFault two so = tt

module _ (clients : Meaning) (f : Facts) (generation : ℕ) (j : List (List Entry)) (file : ℕ)
    (r n r' n' : JournalValue) (o0 o2 o3 : Outside) (two : Two File) (told : o0.files ≡ Some two)
    (run : DiskRun o0 o2) (reader : r.file ≡ file)
    (begun : KeepsJournal clients j (CopiesBatches clients f generation j r n 0) o0 o2) where
  abbrev pub Later : Result (Unit {0}) MigrationFault → Type 0
  Later result =
      (mid : Two File) → o2.files ≡ Some mid → CopiesBatches clients f generation j r n 0 mid
      → CopiesAll clients generation j r.file r' n' o2 o3 result

  copied_so : (result : Result (Unit {0}) MigrationFault) → Later result → KeepsJournal clients j
      (CopiesAllSo clients generation j file r' n' result) o0 o3
  copied_so result later =
      subst (λ (t : ℕ). KeepsJournal clients j (CopiesAllSo clients generation j t r' n' result) o0
      o3) reader
      (keeps_then clients j (CopiesBatches clients f generation j r n 0)
      (CopiesAllSo clients generation j r.file r' n' result) o0 o2 o3 two told run begun later)

  -- the copy failed
  pub copy_failed : (e : MigrationFault) → Later (Err e)
      → (result : Result JournalValue MigrationFault) → result ≡ Err e
      → MigratesJournal clients file generation j o0 o3 result
  copy_failed e later result is =
      subst (λ (x : Result JournalValue MigrationFault).
      MigratesJournal clients file generation j o0 o3 x) (sym is)
      (keeps_map clients j (CopiesAllSo clients generation j file r' n' (Err e))
      (FilesHoldMigrated clients file generation j (Err e)) o0 o3
      (λ t so. copied_fault clients file generation j r' n' e t so) (copied_so (Err e) later))

  module _ (laws : MigrationLaws) (o4 : Outside) (run3 : DiskRun o0 o3) (pair : IsPair r' n')
      (few : generation + 1 < 2 ^ 64) (later : Later (Ok tt))
      (passed : (t : Two File) → o3.files ≡ Some t
      → PassedMoments t o3 o4 n'.file (ShutOrOpened (file_of t n'.file).now)) where
    -- the gate was not opened, or was and that is not known
    pub open_failed : (result : Result JournalValue MigrationFault) → result ≡ Err fault.DiskFault
        → MigratesJournal clients file generation j o0 o4 result
    open_failed result is =
        subst (λ (x : Result JournalValue MigrationFault).
        MigratesJournal clients file generation j o0 o4 x) (sym is)
        (keeps_then clients j (CopiesWhole clients generation j r' n')
        (FilesHoldMigrated clients file generation j (Err fault.DiskFault)) o0 o3 o4 two told
        run3 (copied_so (Ok tt) later)
        (λ mid at whole. record {
          moments = opening_still laws clients generation j r' n' mid pair few whole o3 o4
              (passed mid at);
          ends = λ t end. tt;
        }))

    -- the other file has the journal
    pub opened_so : RelatesTold (PublishesHeader n'.file) o3.files o4.files
        → n'.generation ≡ generation + 1 → MigratesJournal clients file generation j o0 o4 (Ok n')
    opened_so becomes second =
        let P : Two File → Type 0 = FilesHoldMigrated clients file generation j (Ok n') in
        keeps_then clients j (CopiesWhole clients generation j r' n') P o0 o3 o4 two told run3
        (copied_so (Ok tt) later)
        (λ mid at whole. record {
          moments = opening_still laws clients generation j r' n' mid pair few whole o3 o4
              (passed mid at);
          ends = λ t end.
              let new = becomes_told (PublishesHeader n'.file) o3.files o4.files mid at becomes in
              let both : Some new.0 ≡ Some t = sym new.1 ∙ end in
              let one : new.0 ≡ t = cc in
              subst P one (second_so laws clients generation j r' n' mid pair few whole new.0 new.2
              second);
        })
