use Rattle.std.proofs.Common.{length, ◌-◌, ◌≤◌, take}
use Rattle.std.specs.Io.KnownBytes.{Appends}
use Rattle.outside.proofs.output.write_all.Given as goal

abbrev pub invariant-pieces : goal.invariant-pieces
invariant-pieces g l =
    (l.done ≤ length l.bytes)
    × Appends (g.S.Sink.tells l.initial.sink).bytes (g.S.Sink.tells l.sink).bytes (take l.done l.bytes)
    × ((g.S.Sink.tells l.initial.sink).faults ≤ (g.S.Sink.tells l.sink).faults)

abbrev pub decreases-pieces : goal.decreases-pieces
decreases-pieces g l = length l.bytes - l.done
