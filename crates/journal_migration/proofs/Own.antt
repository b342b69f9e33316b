-- The file that is only read.
use Rattle.std.proofs.Common.{◌≡◌, ℕ, ◌-◌, ◌<◌, Option, Result, Err, refl, sym, subst, ◌∙◌}
use Rattle.outside.specs.Disk.{RelatesTold}
use Rattle.outside.specs.Files.{Two, File}
use Rattle.outside.specs.Outside.{OnlyReads, Outside}
use Rattle.outside.specs.Steps.{other_of}
use Rattle.outside.proofs.CallSteps.{becomes_map, becomes_none, becomes_then}
use Rattle.frame_journal.specs.Create.{LeavesClosed, PreparesJournal}
use Rattle.journal_migration.specs.Migrating.{KeepsFile, ReadsOnly}
use Rattle.journal_migration.specs.declared.fault.MigrationFault.{MigrationFault}
use Rattle.journal_migration.specs.declared.fault.MigrationFault.TheVariants as fault
use Rattle.journal_migration.proofs.Sides.{own_file}

pub own_none : (file : ℕ) (o : Option (Two File)) → RelatesTold (KeepsFile file) o o
own_none file o = becomes_none (KeepsFile file) o (λ t. refl)

-- calls that only read
pub own_looks : (file : ℕ) (o o' : Outside) → OnlyReads o o' → RelatesTold
    (KeepsFile file) o.files o'.files
own_looks file o o' looks =
    subst (RelatesTold (KeepsFile file) o.files) (sym looks.same_files) (own_none file o.files)

pub own_then : (file : ℕ) (o0 o1 o2 : Option (Two File)) → RelatesTold (KeepsFile file) o0 o1
    → RelatesTold (KeepsFile file) o1 o2 → RelatesTold (KeepsFile file) o0 o2
own_then file o0 o1 o2 first second =
    becomes_then (KeepsFile file) (KeepsFile file) (KeepsFile file) o0 o1 o2 (λ a b c x y. y
    ∙ x) first second

-- a step that leaves all but the other file
pub own_step : (step : Two File → Two File → Type 0) (file other : ℕ) (o o' : Option (Two File))
    → file < 2 → other ≡ 1 - file
    → ((a b : Two File) → step a b → other_of b other ≡ other_of a other)
    → RelatesTold step o o' → RelatesTold (KeepsFile file) o o'
own_step step file other o o' few is leaves becomes =
    becomes_map step (KeepsFile file) o o'
    (λ a b x.
    let same : other_of b (1 - file) ≡ other_of a (1 - file) =
    subst (λ (k : ℕ). other_of b k ≡ other_of a k) is (leaves a b x) in
    own_file b file few ∙ same ∙ sym (own_file a file few)) becomes

-- a fault behind calls that left the file
pub own_fault : {A : Type 0} (file : ℕ) (o o' : Option (Two File)) (e : MigrationFault)
    (result : Result A MigrationFault) → result ≡ Err e → RelatesTold (KeepsFile file) o o'
    → ReadsOnly file o o' result
own_fault {A = A} file o o' e result is becomes =
    subst (λ (x : Result A MigrationFault). ReadsOnly file o o' x) (sym is) (own_so e)
  where
    own_so : (e : MigrationFault) → ReadsOnly {A = A} file o o' (Err e)
    own_so fault.Memory = becomes
    own_so fault.DiskFault = tt

-- the other file was written and maybe taken back
pub own_left : (file other : ℕ) (o o' : Option (Two File)) → file < 2 → other ≡ 1 - file
    → RelatesTold (LeavesClosed other) o o' → RelatesTold (KeepsFile file) o o'
own_left file other o o' few is =
    own_step (LeavesClosed other) file other o o' few is (λ a b x. x.other)

-- a call on the disk failed
pub own_cut : {A : Type 0} (file : ℕ) (o o' : Option (Two File)) (result : Result A MigrationFault)
    → result ≡ Err fault.DiskFault → ReadsOnly file o o' result
own_cut {A = A} file o o' result is =
    subst (λ (x : Result A MigrationFault). ReadsOnly file o o' x) (sym is) tt

-- the other file was prepared
pub own_begun : (file generation : ℕ) (o0 o1 o2 : Outside) → file < 2 → OnlyReads o0 o1
    → RelatesTold (PreparesJournal (1 - file) 2 generation) o1.files o2.files
    → RelatesTold (KeepsFile file) o0.files o2.files
own_begun file generation o0 o1 o2 few looks becomes =
    own_then file o0.files o1.files o2.files (own_looks file o0 o1 looks)
    (own_step (PreparesJournal (1 - file) 2 generation) file (1 - file) o1.files o2.files few refl
    (λ a b x. x.other) becomes)
