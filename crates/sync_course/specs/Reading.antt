-- How far a reader has read what was heard.
use Rattle.std.specs.Prelude.{◌≡◌, ℕ, List, [], ◌++◌}
use Rattle.record_grammar.specs.Stream.{items}
use Rattle.record_grammar.specs.declared.stream.Item.{Item}
use Rattle.record_stream.specs.Reading.{AwaitsBytes, ReaderState, ReadsOn, fresh_reader}

-- a reader has given all items of what was heard
pub record HasRead (heard : List ℕ) (r : ReaderState) : Type 0 where
  pub reads : ReadsOn heard fresh_reader (items 0 heard) [] r
  pub awaits : AwaitsBytes r

-- of what was heard a reader has given some items, these bytes are left to be fed to it, and these items are to come
pub record IsReading (heard left : List ℕ) (r : ReaderState) (its : List Item) : Type 0 where
  pub given : List Item
  pub reads : ReadsOn heard fresh_reader given left r
  pub to_come : its ≡ items r.place (r.bytes ++ left)
