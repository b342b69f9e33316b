-- The other file prepared for a copy, and what was written of it taken back.
use Rattle.std.specs.Prelude.{◌≡◌, ℕ, false, Option, Some, Result, Ok, Err}
use Rattle.outside.specs.Disk.{RelatesTold}
use Rattle.outside.specs.Faults.{CountRose}
use Rattle.outside.specs.Files.{Two, File, NothingPending, file_of}
use Rattle.outside.specs.Frames.{is_open}
use Rattle.outside.specs.Outside.{Outside}
use Rattle.outside.specs.Steps.{PassedMoments}
use Rattle.frame_journal.specs.Create.{BeforeOrShut, HasShutGate, IsClearedAgain}
use Rattle.journal_migration.specs.declared.fault.MigrationFault.{MigrationFault}
use Rattle.journal_migration.specs.declared.fault.MigrationFault.TheVariants as fault

-- nothing is pending in either file
pub record IsSettledBoth (two : Two File) : Type 0 where
  pub first : NothingPending two 0
  pub second : NothingPending two 1

-- at each moment the file is as it was, or has no open header
abbrev pub EndsOrStays : (file : ℕ) → Outside → Outside → Type 0
EndsOrStays file old new =
    (two : Two File) → old.files ≡ Some two
    → PassedMoments two old new file (BeforeOrShut (file_of two file).now)

-- at each moment the file has no open header
abbrev pub StaysShut : (file : ℕ) → Outside → Outside → Type 0
StaysShut file old new =
    (two : Two File) → old.files ≡ Some two
    → PassedMoments two old new file (λ left. is_open left ≡ false)

-- nothing is pending in a file, whose first byte is no open gate
pub record IsShutAndSettled (file : ℕ) (two : Two File) : Type 0 where
  pub settled : NothingPending two file
  pub shut : HasShutGate (file_of two file).now

-- What was written of a file is taken back: by the fault at first, and the one in the end. Behind
-- want of memory the file is cleared, or a call on the disk failed.
abbrev pub IsTakenBack : (file : ℕ) → MigrationFault → Outside → Outside → MigrationFault → Type 0
IsTakenBack file fault.Memory old new fault.Memory =
    RelatesTold (IsClearedAgain file) old.files new.files
IsTakenBack file fault.Memory old new fault.DiskFault = CountRose old.disk_faults new.disk_faults
IsTakenBack file fault.DiskFault old new fault.Memory = ⊥
IsTakenBack file fault.DiskFault old new fault.DiskFault = Unit {0}

-- where no memory was found this file is cleared, and the other is as before
abbrev pub ClearsAgain : {A : Type 0} → (file : ℕ) → (old new : Option (Two File))
    → Result A MigrationFault → Type 0
ClearsAgain file old new (Ok a) = Unit {0}
ClearsAgain file old new (Err fault.Memory) = RelatesTold (IsClearedAgain file) old new
ClearsAgain file old new (Err fault.DiskFault) = Unit {0}
