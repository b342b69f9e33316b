-- Which calls of the disk a call of a node makes that was broken off.
use Rattle.std.specs.Prelude.{ℕ, Bool, true, false}
use Rattle.frame_journal.specs.Appends.{Appends, BreaksAppends}
use Rattle.outside.specs.Outside.{Outside}
use Rattle.sync_store.specs.Store.{StoreValue}
use Rattle.sync_node.specs.declared.fault.Fault.{Fault}
use Rattle.sync_node.specs.declared.fault.Fault.TheVariants as fault

-- It made appends to the journal's file. Where its disk failed they were broken off in the call that failed, and else
-- they were made in full.
abbrev pub CutBy : (disk : Bool) → StoreValue → Outside → Outside → Type 0
CutBy true s o o' = BreaksAppends s.file s.end o o'
CutBy false s o o' = (end : ℕ) × Appends s.file s.end end o o'

-- whether a fault is one of the disk
abbrev pub is_of_disk : Fault → Bool
is_of_disk fault.DiskFault = true
is_of_disk fault.Memory = false
is_of_disk fault.Full = false
