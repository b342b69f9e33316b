-- What `records` prints: a line for each record or skipped record, with its place.
use Rattle.std.specs.Prelude.{ℕ, List}
use Rattle.std.specs.List.{flat_map}
use Rattle.record_grammar.specs.declared.stream.Item.{Item}
use Rattle.record_grammar.specs.declared.stream.Item.TheVariants as item
use Rattle.sync_words.specs.StreamTexts.{placed_text, skipped_text}

-- the line of an item
abbrev pub item_text : Item → List ℕ
item_text (item.One place r) = placed_text place r
item_text (item.Skipped place type_byte len) = skipped_text place type_byte len

-- the lines of the items of a stream
abbrev pub items_text : List Item → List ℕ
items_text items = flat_map item_text items
