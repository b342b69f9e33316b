-- A stream that is heard in pieces.
use Rattle.std.specs.Prelude.{◌≡◌, ℕ, ◌+◌, ◌<◌, List, [], ◌++◌, length, Option, Some, None}
use Rattle.record_grammar.specs.Stream.{ending, items}
use Rattle.record_grammar.specs.declared.stream.Item.{Item}
use Rattle.record_stream.specs.Reading.{AwaitsBytes, ReaderState, ReadsOn, fresh_reader}

-- A reader took a piece but for what is left of it, and a listener heard the items that it gave, in order: whatever it had
-- heard before since some state, it has heard that and these since then.
pub record Hearing {L : Type 0} (heard : L → List Item → L → Type 0) (piece : List ℕ) (old : ReaderState) (left : List ℕ) (new : ReaderState) (l l' : L) : Type 0 where
  pub has : List Item
  pub reads : ReadsOn piece old has left new
  pub hears : (first : L) (before : List Item) → heard first before l → heard first (before ++ has) l'

-- What is left after an item was taken: fewer bytes, held or of the piece. Where none was taken nothing is left of the piece.
abbrev pub LeavesOfPiece : Option Item → List ℕ → ReaderState → List ℕ → ReaderState → Type 0
LeavesOfPiece (Some i) piece old left new = length new.bytes + length left < length old.bytes + length piece
LeavesOfPiece None piece old left new = (left ≡ []) × AwaitsBytes new

-- What was read of a piece, and then of what was left of it with more behind it, was read of both as one piece.
abbrev pub ReadingsJoin : Type 0
ReadingsJoin = (piece left more rest : List ℕ) (old mid new : ReaderState) (has others : List Item) → ReadsOn piece old has left mid
    → ReadsOn (left ++ more) mid others rest new → ReadsOn (piece ++ more) old (has ++ others) rest new

-- what comes behind a piece is left behind what is left of it
abbrev pub ReadingsWiden : Type 0
ReadingsWiden = (piece left more : List ℕ) (old new : ReaderState) (has : List Item) → ReadsOn piece old has left new
    → ReadsOn (piece ++ more) old has (left ++ more) new

-- what is read of what is left of a piece comes behind what was read of it
abbrev pub ReadingsFollow : Type 0
ReadingsFollow = (piece left rest : List ℕ) (old mid new : ReaderState) (has others : List Item) → ReadsOn piece old has left mid
    → ReadsOn left mid others rest new → ReadsOn piece old (has ++ others) rest new

-- Once all bytes of a stream were read from its start, the items given are those of the stream, and it ends as what the
-- reader holds does.
abbrev pub ReadingsAreWhole : Type 0
ReadingsAreWhole = (bytes : List ℕ) (has : List Item) (r : ReaderState)
    → ReadsOn bytes fresh_reader has [] r → AwaitsBytes r
    → (items 0 bytes ≡ has) × (ending 0 bytes ≡ ending r.place r.bytes)
