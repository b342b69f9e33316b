use Rattle.std.proofs.Common.{take}
use Rattle.connections.proofs.DeskLemmas.{FoundFirst}
use Rattle.connections.proofs.desk.Desk.next.Given as goal

abbrev pub invariant-loop-i : goal.invariant-loop-i
invariant-loop-i g l = FoundFirst (take l.i l.self.places.items) l.first
