-- How an input is heard that is read in pieces.
use Rattle.std.specs.Prelude.{◌≡◌, ℕ, ◌+◌, ◌≤◌, List, [], ◌++◌, length, take}
use Rattle.std.specs.Io.KnownBytes.{Consumes, IsAtEnd}
use Rattle.outside.specs.Faults.{CountRose}
use Rattle.outside.specs.Streams.{Stream}
use Rattle.record_grammar.specs.Stream.{ending, items}
use Rattle.record_grammar.specs.declared.stream.Ending.{Ending}
use Rattle.record_grammar.specs.declared.stream.Item.{Item}
use Rattle.record_stream.specs.Pieces.{Hearing}
use Rattle.record_stream.specs.Reading.{AwaitsBytes, ReaderState, fresh_reader}
use Rattle.stream_commands.specs.declared.input.TheConstants.{MAX_INPUT}
use Rattle.stream_commands.specs.declared.input.Stop.{Stop}
use Rattle.stream_commands.specs.declared.input.Stop.TheVariants as stop

-- why the reading of an input stopped
abbrev pub StopsReading : Stop → (input input' : Stream) → List ℕ → Type 0
StopsReading stop.End input input' read = IsAtEnd input'.bytes × (length read ≤ MAX_INPUT)
StopsReading stop.ReadFault input input' read =
    CountRose input.faults input'.faults × (length read ≤ MAX_INPUT)
StopsReading stop.TooMuch input input' read = length read ≡ MAX_INPUT + 1

-- an input was read, and all items of its first MAX_INPUT bytes were heard, with how they end
pub record HearsInput {L : Type 0} (heard : L → List Item → L → Type 0) (input input' : Stream)
    (l l' : L) (why : Stop) (end : Ending) : Type 0 where
  pub read : List ℕ
  pub consumed : Consumes input.bytes input'.bytes read
  pub hears : (first : L) (before : List Item) → heard first before l → heard first
      (before ++ items 0 (take MAX_INPUT read)) l'
  pub ends : end ≡ ending 0 (take MAX_INPUT read)
  pub stops : StopsReading why input input' read

-- what the reading of an input keeps, piece by piece
pub record Reading {L : Type 0} (heard : L → List Item → L → Type 0) (input input' : Stream)
    (total : ℕ) (r : ReaderState) (l l' : L) : Type 0 where
  pub read : List ℕ
  pub consumed : Consumes input.bytes input'.bytes read
  pub counted : total ≡ length read
  pub within : total ≤ MAX_INPUT
  pub later : input.faults ≤ input'.faults
  pub hearing : Hearing heard read fresh_reader [] r l l'
  pub waits : AwaitsBytes r
