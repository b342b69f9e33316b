-- Why a node failed that was not closed, and what it answers then.
use Rattle.std.specs.Prelude.{Bool, true, false, Result, Ok, Err}
use Rattle.sync_node.specs.declared.fault.Fault.{Fault}
use Rattle.sync_node.specs.declared.fault.Fault.TheVariants as fault
use Rattle.sync_node.specs.declared.fault.NodeFault.{NodeFault}
use Rattle.sync_node.specs.declared.fault.NodeFault.TheVariants as node

abbrev pub fault_of : Fault → NodeFault
fault_of fault.Memory = node.Memory
fault_of fault.DiskFault = node.DiskFault
fault_of fault.Full = node.Full

-- what a node answers by what its work came to
abbrev pub answer_of : {T : Type 0} → Result T Fault → Result T NodeFault
answer_of (Ok x) = Ok x
answer_of (Err e) = Err (fault_of e)

abbrev pub has_failed : {T E : Type 0} → Result T E → Bool
has_failed (Ok _) = false
has_failed (Err _) = true
