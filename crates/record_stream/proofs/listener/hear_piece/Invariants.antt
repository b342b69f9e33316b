use Rattle.std.proofs.Common.{◌+◌, length}
use Rattle.record_stream.specs.Pieces.{Hearing}
use Rattle.record_stream.proofs.listener.hear_piece.Given as goal

abbrev pub invariant-items : goal.invariant-items
invariant-items g l = Hearing g.L.Listener.heard l.piece l.initial.reader l.left l.reader l.initial.listener l.listener

abbrev pub decreases-items : goal.decreases-items
decreases-items g l = length l.reader.bytes + length l.left
