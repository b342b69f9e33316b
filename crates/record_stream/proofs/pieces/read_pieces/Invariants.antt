use Rattle.std.proofs.Common.{[], take}
use Rattle.std.specs.List.{flat_map}
use Rattle.record_stream.specs.Reading.{AwaitsBytes, ReadsOn, fresh_reader}
use Rattle.record_stream.proofs.pieces.read_pieces.Given as goal

abbrev pub invariant-pieces : goal.invariant-pieces
invariant-pieces l = record {
  waits : AwaitsBytes l.reader;
  reads : ReadsOn (flat_map (λ piece. piece.items) (take l.piece-index l.pieces)) fresh_reader
      l.keeper.items.items [] l.reader;
}
