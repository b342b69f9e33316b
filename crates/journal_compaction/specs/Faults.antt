-- The faults of a compaction by those of what writes frames.
use Rattle.journal_migration.specs.declared.fault.MigrationFault.{MigrationFault}
use Rattle.journal_migration.specs.declared.fault.MigrationFault.TheVariants as migration
use Rattle.journal_compaction.specs.declared.fault.CompactionFault.{CompactionFault}
use Rattle.journal_compaction.specs.declared.fault.CompactionFault.TheVariants as fault

abbrev pub fault_of : MigrationFault → CompactionFault
fault_of migration.Memory = fault.Memory
fault_of migration.DiskFault = fault.DiskFault
