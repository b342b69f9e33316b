use Rattle.std.proofs.Common.{◌+◌, ◌-◌, ◌≤◌, length, min}
use Rattle.stream_commands.specs.declared.input.TheConstants.{MAX_INPUT, PIECE}
use Rattle.stream_commands.specs.Input.{Reading}
use Rattle.stream_commands.proofs.input.hear_input.Given as goal

abbrev pub invariant-pieces : goal.invariant-pieces
invariant-pieces g l = record {
  room : min PIECE (MAX_INPUT + 1 - l.total) ≤ length l.buf.items;
  reading : Reading g.L.Listener.heard (g.S.Source.tells l.initial.input)
      (g.S.Source.tells l.input) l.total l.reader l.initial.listener l.listener;
}

abbrev pub decreases-pieces : goal.decreases-pieces
decreases-pieces g l = MAX_INPUT + 1 - l.total
