use Rattle.sync_node.specs.Sending.{ClosesSome}
use Rattle.sync_node.proofs.CourseRuns.{ClosedSo}
use Rattle.sync_node.proofs.redundant.close_redundant.Given as goal

abbrev pub invariant-links : goal.invariant-links
invariant-links l = record { some : ClosesSome l.initial.links l.links; exact : ClosedSo l.initial.links l.links l.place }
