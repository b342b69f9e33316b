-- What a reader answers.
use Rattle.std.specs.Prelude.{◌≡◌, ℕ, false, ◌+◌, ◌-◌, ◌<◌, List, [], ◌∷◌, length}
use Rattle.record_grammar.specs.declared.stream.Item.{Item}
use Rattle.record_grammar.specs.declared.stream.Item.TheVariants as item
use Rattle.record_grammar.specs.Reading.{found_in}
use Rattle.record_grammar.specs.declared.reading.Found.{Found}
use Rattle.record_grammar.specs.declared.reading.Found.TheVariants as found
use Rattle.record_stream.specs.declared.reader.Next.{Next}
use Rattle.record_stream.specs.declared.reader.Next.TheVariants as next
use Rattle.record_stream.specs.Reading.{AwaitsBytes, EndsBad, ReaderState}

-- the answer for what stands at the front of the bytes
abbrev pub next_of : ℕ → Found → Next
next_of place (found.One r used) = next.One place r
next_of place (found.Skipped type_byte used) = next.Skipped place type_byte (used - 4)
next_of place found.More = next.More
next_of place (found.Bad why) = next.Bad place why

-- the item that an answer gives, if it gives one
abbrev pub told_by : Next → List Item
told_by (next.One place r) = item.One place r ∷ []
told_by (next.Skipped place type_byte len) = item.Skipped place type_byte len ∷ []
told_by next.More = []
told_by (next.Bad place why) = []

-- What an answer says of the bytes that are left: fewer after an item. After the others no item stands at their front; then
-- the reader is as it was, with the front of a record that more bytes may complete and room for at least one, or nothing that may follow gives an item or another ending.
abbrev pub LeavesAt : Next → ReaderState → ReaderState → Type 0
LeavesAt (next.One place r) old new = length new.bytes < length old.bytes
LeavesAt (next.Skipped place type_byte len) old new = length new.bytes < length old.bytes
LeavesAt next.More old new = (new ≡ old) × AwaitsBytes new × (new.failed ≡ false) × (found_in new.bytes ≡ found.More)
LeavesAt (next.Bad place why) old new = AwaitsBytes new × EndsBad new place why

-- The same of the bytes held together with those that are left of a piece: after an item fewer, after the others nothing is
-- left of the piece.
abbrev pub LeavesOf : Next → List ℕ → ReaderState → List ℕ → ReaderState → Type 0
LeavesOf (next.One place r) piece old left new = length new.bytes + length left < length old.bytes + length piece
LeavesOf (next.Skipped place type_byte len) piece old left new = length new.bytes + length left < length old.bytes + length piece
LeavesOf next.More piece old left new = (left ≡ []) × AwaitsBytes new × (new.failed ≡ false) × (found_in new.bytes ≡ found.More)
LeavesOf (next.Bad place why) piece old left new = (left ≡ []) × AwaitsBytes new × EndsBad new place why
