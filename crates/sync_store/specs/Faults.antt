-- The faults of a load by those of the journal that it reads.
use Rattle.frame_journal.specs.declared.fault.StartFault.{StartFault}
use Rattle.frame_journal.specs.declared.fault.StartFault.TheVariants as start
use Rattle.frame_journal.specs.declared.fault.FrameFault.{FrameFault}
use Rattle.frame_journal.specs.declared.fault.FrameFault.TheVariants as frame
use Rattle.sync_store.specs.declared.fault.LoadFault.{LoadFault}
use Rattle.sync_store.specs.declared.fault.LoadFault.TheVariants as load

abbrev pub load_of_start : StartFault → LoadFault
load_of_start start.NoStore = load.NoStore
load_of_start start.DiskFault = load.DiskFault
load_of_start (start.Damaged place) = load.Damaged place

abbrev pub load_of_frame : FrameFault → LoadFault
load_of_frame frame.Memory = load.Memory
load_of_frame frame.DiskFault = load.DiskFault
load_of_frame (frame.Damaged place) = load.Damaged place
