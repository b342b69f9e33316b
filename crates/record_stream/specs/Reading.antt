-- A reader, seen as its place in the stream, the bytes that it holds, and whether it has answered that they are no record.
use Rattle.std.specs.Prelude.{◌≡◌, ℕ, ◌-◌, ◌≤◌, ◌<◌, Bool, true, false, List, [], ◌++◌, length, take, drop}
use Rattle.record_grammar.specs.Reading.{found_in}
use Rattle.record_grammar.specs.Stream.{IsRest, ending, items, place_after}
use Rattle.record_grammar.specs.declared.front.Reason.{Reason}
use Rattle.record_grammar.specs.declared.reading.Found.{Found}
use Rattle.record_grammar.specs.declared.reading.Found.TheVariants as found
use Rattle.record_grammar.specs.declared.stream.Ending.TheVariants as ending_kind
use Rattle.record_grammar.specs.declared.stream.Item.{Item}
use Rattle.record_stream.specs.declared.reader.TheConstants.{BUFFER_LEN}

pub record ReaderState : Type 0 where
  pub place : ℕ
  pub bytes : List ℕ
  pub failed : Bool

-- a reader at the start of a stream
abbrev pub fresh_reader : ReaderState
fresh_reader = record { place = 0; bytes = []; failed = false }

-- a reader after an answer about the front of its bytes
abbrev pub after : ReaderState → Found → ReaderState
after s (found.One r used) = record s { place = place_after s.place (found.One r used); bytes = drop used s.bytes }
after s (found.Skipped type_byte used) = record s { place = place_after s.place (found.Skipped type_byte used); bytes = drop used s.bytes }
after s found.More = s
after s (found.Bad why) = record s { failed = true }

-- the front of these bytes is no record, so that nothing that may follow gives an item or another ending
pub record IsStreamRefused (place : ℕ) (bytes : List ℕ) : Type 0 where
  pub why : Reason
  pub bad : found_in bytes ≡ found.Bad why
  pub nothing : (more : List ℕ) → items place (bytes ++ more) ≡ []
  pub ends : (more : List ℕ) → ending place (bytes ++ more) ≡ ending_kind.Bad place why

-- what every reader keeps: the bytes held lie within the buffer, and a reader has failed at a refusal only
pub record IsReaderSound (buffer : List ℕ) (start end place : ℕ) (failed : Bool) : Type 0 where
  pub whole : length buffer ≡ BUFFER_LEN
  pub ordered : start ≤ end
  pub within : end ≤ BUFFER_LEN
  pub refused : failed ≡ true → IsStreamRefused place (take (end - start) (drop start buffer))

-- A reader that held these bytes took these of a piece and left those, and gave these items: whatever comes behind the
-- piece, the items of all are those given and those of the rest, and the rest ends as all does.
pub record ReadsOn (piece : List ℕ) (old : ReaderState) (has : List Item) (left : List ℕ) (new : ReaderState) : Type 0 where
  pub items_stay : (more : List ℕ) → items old.place (old.bytes ++ (piece ++ more)) ≡ has ++ items new.place (new.bytes ++ (left ++ more))
  pub ending_stays : (more : List ℕ) → ending old.place (old.bytes ++ (piece ++ more)) ≡ ending new.place (new.bytes ++ (left ++ more))

-- every item that stands whole in the bytes held was given, and there is room for more unless the reader has failed
pub record AwaitsBytes (r : ReaderState) : Type 0 where
  pub rest : IsRest r.bytes
  pub nothing : items r.place r.bytes ≡ []
  pub room : r.failed ≡ false → length r.bytes < BUFFER_LEN

-- nothing that may follow gives an item or another ending than Bad, at this place and for this reason
pub record EndsBad (r : ReaderState) (place : ℕ) (why : Reason) : Type 0 where
  pub failed : r.failed ≡ true
  pub nothing : (more : List ℕ) → items r.place (r.bytes ++ more) ≡ []
  pub ends : (more : List ℕ) → ending r.place (r.bytes ++ more) ≡ ending_kind.Bad place why
