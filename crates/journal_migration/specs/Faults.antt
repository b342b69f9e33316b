-- The faults of a migration by those of the journal that is read.
use Rattle.frame_journal.specs.declared.fault.StartFault.{StartFault}
use Rattle.frame_journal.specs.declared.fault.StartFault.TheVariants as start
use Rattle.frame_journal.specs.declared.fault.FrameFault.{FrameFault}
use Rattle.frame_journal.specs.declared.fault.FrameFault.TheVariants as frame
use Rattle.journal_migration.specs.declared.fault.MigrationFault.{MigrationFault}
use Rattle.journal_migration.specs.declared.fault.MigrationFault.TheVariants as fault

-- what was read before is not there any more
abbrev pub fault_of_start : StartFault → MigrationFault
fault_of_start start.NoStore = fault.Memory
fault_of_start start.DiskFault = fault.DiskFault
fault_of_start (start.Damaged place) = fault.Memory

abbrev pub fault_of_frame : FrameFault → MigrationFault
fault_of_frame frame.Memory = fault.Memory
fault_of_frame frame.DiskFault = fault.DiskFault
fault_of_frame (frame.Damaged place) = fault.Memory
