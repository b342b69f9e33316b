-- A stream of records: the items of its longest prefix that is made of whole records and skipped ones, and how it ends.
use Rattle.std.specs.Prelude.{◌≡◌, ◌≢◌, ℕ, zero, suc, ◌+◌, ◌-◌, ◌^◌, ◌≤◌, min, List, [], ◌∷◌, ◌++◌, length, drop, Option, Some, None, option_to_list}
use Rattle.sync_ids.specs.declared.records.Record.{Record}
use Rattle.record_grammar.specs.Spelling.{spelling}
use Rattle.record_grammar.specs.Reading.{found_in}
use Rattle.record_grammar.specs.declared.front.Reason.{Reason}
use Rattle.record_grammar.specs.declared.reading.Found.{Found}
use Rattle.record_grammar.specs.declared.reading.Found.TheVariants as found
use Rattle.record_grammar.specs.declared.stream.Ending.{Ending}
use Rattle.record_grammar.specs.declared.stream.Ending.TheVariants as ending_kind
use Rattle.record_grammar.specs.declared.stream.Item.{Item}
use Rattle.record_grammar.specs.declared.stream.Item.TheVariants as item

-- n bytes further on; a place stands still at the greatest number of 64 bits
abbrev pub advanced : ℕ → ℕ → ℕ
advanced place n = min (place + n) (2 ^ 64 - 1)

-- the item that an answer gives
abbrev pub item_of : ℕ → Found → Option Item
item_of place (found.One r used) = Some (item.One place r)
item_of place (found.Skipped type_byte used) = Some (item.Skipped place type_byte (used - 4))
item_of place found.More = None
item_of place (found.Bad why) = None

-- how many bytes an answer takes
abbrev pub used_of : Found → ℕ
used_of (found.One r used) = used
used_of (found.Skipped type_byte used) = used
used_of found.More = 0
used_of (found.Bad why) = 0

-- the place behind what an answer takes
abbrev pub place_after : ℕ → Found → ℕ
place_after place (found.One r used) = advanced place used
place_after place (found.Skipped type_byte used) = advanced place used
place_after place found.More = place
place_after place (found.Bad why) = place

-- no whole record and no skipped one stands at the front
abbrev pub IsRest : List ℕ → Type 0
IsRest bytes = item_of 0 (found_in bytes) ≡ None

-- some items, and what follows them, with its place
pub record Parsed : Type 0 where
  pub items : List Item
  pub place : ℕ
  pub rest : List ℕ

abbrev pub with_item : Option Item → Parsed → Parsed → Parsed
with_item None stop later = stop
with_item (Some i) stop later = record { items = i ∷ later.items; place = later.place; rest = later.rest }

-- the first n items, or as many as there are
unfoldable pub parsed : ℕ → ℕ → List ℕ → Parsed
parsed zero place bytes = record { items = []; place = place; rest = bytes }
parsed (suc n) place bytes =
    with_item (item_of place (found_in bytes)) (record { items = []; place = place; rest = bytes })
    (parsed n (place_after place (found_in bytes)) (drop (used_of (found_in bytes)) bytes))

-- the items of a stream whose first byte has this place
unfoldable pub items : ℕ → List ℕ → List Item
items place bytes = (parsed (length bytes) place bytes).items

-- what follows the items, and its place
unfoldable pub rest : ℕ → List ℕ → List ℕ
rest place bytes = (parsed (length bytes) place bytes).rest

unfoldable pub rest_place : ℕ → List ℕ → ℕ
rest_place place bytes = (parsed (length bytes) place bytes).place

abbrev pub ending_for : ℕ → List ℕ → Found → Ending
ending_for place [] f = ending_kind.Clean
ending_for place (x ∷ bytes) (found.Bad why) = ending_kind.Bad place why
ending_for place (x ∷ bytes) f = ending_kind.Inside place

-- how a stream ends whose first byte has this place
unfoldable pub ending : ℕ → List ℕ → Ending
ending place bytes = ending_for (rest_place place bytes) (rest place bytes) (found_in (rest place bytes))

-- the records alone
unfoldable pub records_of : List Item → List Record
records_of [] = []
records_of (item.One place r ∷ others) = r ∷ records_of others
records_of (item.Skipped place type_byte len ∷ others) = records_of others

abbrev pub records : List ℕ → List Record
records bytes = records_of (items 0 bytes)

-- the items that an answer gives, at most one
abbrev pub told : ℕ → Found → List Item
told place f = option_to_list (item_of place f)

-- the items of records that are spelled one behind the other, the first at this place
abbrev pub placed : ℕ → List Record → List Item
placed place [] = []
placed place (r ∷ rs) = item.One place r ∷ placed (advanced place (length (spelling r))) rs

-- the place behind records that are spelled one behind the other
abbrev pub behind : ℕ → List Record → ℕ
behind place [] = place
behind place (r ∷ rs) = behind (advanced place (length (spelling r))) rs

-- what an ending says of the rest of a stream, which has this place
abbrev pub EndsWith : ℕ → List ℕ → Ending → Type 0
EndsWith place bytes ending_kind.Clean = bytes ≡ []
EndsWith place bytes (ending_kind.Inside at) = (at ≡ place) × (1 ≤ length bytes) × (found_in bytes ≡ found.More)
EndsWith place bytes (ending_kind.Bad at why) = (at ≡ place) × (found_in bytes ≡ found.Bad why)

-- A stream goes on behind its rest: whatever follows, its items are those that it has and those of the rest with what
-- follows, and it ends as these do. At the front of the rest stands no item.
pub record GoesOnBehind (place : ℕ) (bytes : List ℕ) : Type 0 where
  pub begins : (more : List ℕ) → items place (bytes ++ more) ≡ items place bytes ++ items (rest_place place bytes) (rest place bytes ++ more)
  pub ends : (more : List ℕ) → ending place (bytes ++ more) ≡ ending (rest_place place bytes) (rest place bytes ++ more)
  pub no_more : IsRest (rest place bytes)

-- An answer about the front of some bytes says what the stream that they begin has: whatever follows, its items are what
-- the answer gives and those behind it, and it ends as what is behind it does. Behind a refusal there is nothing.
pub record TellsStream (bytes : List ℕ) (f : Found) : Type 0 where
  pub begins : (place : ℕ) (more : List ℕ) → f ≢ found.More
      → items place (bytes ++ more) ≡ told place f ++ items (place_after place f) (drop (used_of f) bytes ++ more)
  pub ends : (place : ℕ) (more : List ℕ) → f ≢ found.More
      → ending place (bytes ++ more) ≡ ending (place_after place f) (drop (used_of f) bytes ++ more)
  pub unfinished : (place : ℕ) → f ≡ found.More → items place bytes ≡ []
  pub refused : (place : ℕ) (more : List ℕ) (why : Reason) → f ≡ found.Bad why
      → (items place (bytes ++ more) ≡ []) × (ending place (bytes ++ more) ≡ ending_kind.Bad place why)
