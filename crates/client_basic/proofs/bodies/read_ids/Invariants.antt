-- The ids read and those left are all ids.
use Rattle.std.proofs.Common.{◌≡◌, ◌-◌, ◌*◌, ◌++◌, length, drop}
use Rattle.client_basic.specs.Bodies.{ids_from}
use Rattle.client_basic.proofs.bodies.read_ids.Given as goal

abbrev pub invariant-loop-i : goal.invariant-loop-i
invariant-loop-i l = (l.ids.items ++ ids_from (l.count - l.i) (drop (32 * l.i) l.bytes) ≡ ids_from l.count l.bytes) × (length l.ids.items ≡ l.i)
