-- Which records of a file are taken, and how its reading ends.
use Rattle.std.specs.Prelude.{ℕ, cond, List, [], ◌∷◌}
use Rattle.record_grammar.specs.Stream.{ending, items}
use Rattle.record_grammar.specs.declared.stream.Ending.{Ending}
use Rattle.record_grammar.specs.declared.stream.Ending.TheVariants as ending_kind
use Rattle.record_grammar.specs.declared.stream.Item.{Item}
use Rattle.record_grammar.specs.declared.stream.Item.TheVariants as item
use Rattle.sync_ids.specs.declared.records.Record.{Record}
use Rattle.sync_course.specs.Links.{closes}
use Rattle.mailbox_core.specs.declared.ends.BoxEnding.{BoxEnding}
use Rattle.mailbox_core.specs.declared.ends.BoxEnding.TheVariants as box

-- the records of items, up to and with the first that ends the reading; skipped ones are passed
-- over
abbrev pub records_to_take : List Item → List Record
records_to_take [] = []
records_to_take (item.One place r ∷ its) = r ∷ cond (closes r) [] (records_to_take its)
records_to_take (item.Skipped place type_byte len ∷ its) = records_to_take its

-- how a stream ends
abbrev pub ends_as : Ending → BoxEnding
ends_as ending_kind.Clean = box.Clean
ends_as (ending_kind.Inside place) = box.Inside place
ends_as (ending_kind.Bad place why) = box.Bad place why

-- how the reading of items ends, behind which the stream ends so
abbrev pub ending_behind : List Item → Ending → BoxEnding
ending_behind [] e = ends_as e
ending_behind (item.One place r ∷ its) e =
    cond (closes r) (box.NoVersion place) (ending_behind its e)
ending_behind (item.Skipped place type_byte len ∷ its) e = ending_behind its e

-- the records of a file that are taken, and how its reading ends
abbrev pub box_records : List ℕ → List Record
box_records bytes = records_to_take (items 0 bytes)

abbrev pub box_ending : List ℕ → BoxEnding
box_ending bytes = ending_behind (items 0 bytes) (ending 0 bytes)
