use Rattle.std.proofs.Common.{◌≡◌, ◌+◌, [], length}
use Rattle.record_stream.specs.Reading.{ReadsOn}
use Rattle.record_stream.proofs.reader.Reader.next_in.Given as goal

-- the bytes held and what is left are as much as they were, and no item was given
abbrev pub invariant-feeds : goal.invariant-feeds
invariant-feeds l = record {
  reads : ReadsOn l.initial.piece l.initial.self [] l.piece l.self;
  counted : length l.self.bytes + length l.piece ≡ length l.initial.self.bytes + length l.initial.piece;
}

abbrev pub decreases-feeds : goal.decreases-feeds
decreases-feeds l = length l.piece
