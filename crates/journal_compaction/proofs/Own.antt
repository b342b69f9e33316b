-- The file that is only read, and the other, of which nothing is left behind want of memory.
use Rattle.std.proofs.Common.{◌≡◌, ℕ, ◌-◌, ◌<◌, Option, Result, Ok, Err, inl, inr, refl, sym}
use Rattle.std.proofs.Common.{subst, ◌∙◌}
use Rattle.outside.specs.Disk.{RelatesTold}
use Rattle.outside.specs.Files.{Two, File}
use Rattle.outside.proofs.CallSteps.{becomes_none, becomes_then}
use Rattle.frame_journal.specs.Create.{IsClearedAgain, LeavesClosed, PreparesJournal}
use Rattle.frame_journal.specs.Create.{PublishesHeader}
use Rattle.frame_journal.specs.Journal.{JournalValue}
use Rattle.journal_migration.specs.Migrating.{IsAsBeforeOrCleared, KeepsFile}
use Rattle.journal_migration.specs.Starting.{ClearsAgain}
use Rattle.journal_migration.specs.declared.fault.MigrationFault.{MigrationFault}
use Rattle.journal_migration.specs.declared.fault.MigrationFault.TheVariants as migration
use Rattle.journal_migration.proofs.Own.{own_left, own_none, own_step, own_then}
use Rattle.journal_compaction.specs.declared.fault.CompactionFault.{CompactionFault}
use Rattle.journal_compaction.specs.declared.fault.CompactionFault.TheVariants as fault
use Rattle.journal_compaction.specs.Compacting.{KeepsOwn, LeavesNothing}
use Rattle.journal_compaction.specs.Faults.{fault_of}

-- no call was made
pub own_unmade : (file : ℕ) (o : Option (Two File)) (result : Result JournalValue CompactionFault)
    → result ≡ Err fault.Memory → KeepsOwn file o o result
own_unmade file o result is = subst (KeepsOwn file o o) (sym is) (own_none file o)

pub nothing_unmade : (other : ℕ) (o : Option (Two File))
    (result : Result JournalValue CompactionFault) → result ≡ Err fault.Memory
    → LeavesNothing other o o result
nothing_unmade other o result is =
    subst (LeavesNothing other o o) (sym is)
    (becomes_none (IsAsBeforeOrCleared other) o (λ t. inl refl))

-- a call on the disk failed
pub own_failed : (file : ℕ) (o o' : Option (Two File)) (result : Result JournalValue CompactionFault)
    → result ≡ Err fault.DiskFault → KeepsOwn file o o' result
own_failed file o o' result is = subst (KeepsOwn file o o') (sym is) tt

pub nothing_failed : (other : ℕ) (o o' : Option (Two File))
    (result : Result JournalValue CompactionFault) → result ≡ Err fault.DiskFault
    → LeavesNothing other o o' result
nothing_failed other o o' result is = subst (LeavesNothing other o o') (sym is) tt

-- the other file was prepared and written, and maybe taken back
own_written : (file other generation : ℕ) (o0 o1 o2 : Option (Two File)) → file < 2
    → other ≡ 1 - file → RelatesTold (PreparesJournal other 2 generation) o0 o1
    → RelatesTold (LeavesClosed other) o1 o2 → RelatesTold (KeepsFile file) o0 o2
own_written file other generation o0 o1 o2 few is prepared leaves =
    own_then file o0 o1 o2
    (own_step (PreparesJournal other 2 generation) file other o0 o1 few is (λ a b x. x.other)
    prepared) (own_left file other o1 o2 few is leaves)

pub own_back : (file other generation : ℕ) (e : MigrationFault) (o0 o1 o2 : Option (Two File))
    (result : Result JournalValue CompactionFault) → file < 2 → other ≡ 1 - file
    → RelatesTold (PreparesJournal other 2 generation) o0 o1
    → RelatesTold (LeavesClosed other) o1 o2 → result ≡ Err (fault_of e)
    → KeepsOwn file o0 o2 result
own_back file other generation e o0 o1 o2 result few is prepared leaves answer =
    subst (KeepsOwn file o0 o2) (sym answer) (so e)
  where
    so : (e : MigrationFault) → KeepsOwn file o0 o2 (Err (fault_of e))
    so migration.Memory = own_written file other generation o0 o1 o2 few is prepared leaves
    so migration.DiskFault = tt

pub nothing_back : (other generation : ℕ) (e : MigrationFault) (o0 o1 o2 : Option (Two File))
    (result : Result JournalValue CompactionFault)
    → RelatesTold (PreparesJournal other 2 generation) o0 o1
    → ClearsAgain {A = Unit {0}} other o1 o2 (Err e) → result ≡ Err (fault_of e)
    → LeavesNothing other o0 o2 result
nothing_back other generation e o0 o1 o2 result prepared back answer =
    subst (LeavesNothing other o0 o2) (sym answer) (so e back)
  where
    so : (e : MigrationFault) → ClearsAgain {A = Unit {0}} other o1 o2 (Err e)
        → LeavesNothing other o0 o2 (Err (fault_of e))
    so migration.Memory back =
        becomes_then (PreparesJournal other 2 generation) (IsClearedAgain other)
        (IsAsBeforeOrCleared other) o0 o1 o2 (λ a b c x y. inr y.cleared) prepared back
    so migration.DiskFault back = tt

-- and published
pub own_published : (file other again generation : ℕ) (n : JournalValue)
    (o0 o1 o2 o3 : Option (Two File)) → file < 2 → other ≡ 1 - file → again ≡ other
    → RelatesTold (PreparesJournal other 2 generation) o0 o1
    → RelatesTold (LeavesClosed other) o1 o2 → RelatesTold (PublishesHeader again) o2 o3
    → KeepsOwn file o0 o3 (Ok n)
own_published file other again generation n o0 o1 o2 o3 few is same prepared leaves published =
    own_then file o0 o2 o3 (own_written file other generation o0 o1 o2 few is prepared leaves)
    (own_step (PublishesHeader again) file again o2 o3 few (same ∙ is) (λ a b x. x.other)
    published)
