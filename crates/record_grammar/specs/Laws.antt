-- What reading has to do with spelling.
use Rattle.std.specs.Prelude.{◌≡◌, ◌≢◌, ◌⊎◌, ℕ, ◌+◌, ◌<◌, ◌≤◌, List, [], ◌∷◌, ◌++◌, length, slice_index, take}
use Rattle.std.specs.List.{AllByRecursion}
use Rattle.sync_ids.specs.declared.records.Record.{Record}
use Rattle.sync_ids.specs.Records.{IsRecord}
use Rattle.record_grammar.specs.declared.front.TheConstants.{MAX_RECORD}
use Rattle.record_grammar.specs.Spelling.{Skips, Spells, joined, spelled}
use Rattle.record_grammar.specs.Stream.{EndsWith, GoesOnBehind, IsRest, advanced, behind, ending, items, placed, records, records_of, rest, rest_place}
use Rattle.record_grammar.specs.declared.stream.Ending.TheVariants as ending_kind
use Rattle.record_grammar.specs.declared.stream.Item.{Item}
use Rattle.record_grammar.specs.declared.stream.Item.TheVariants as item
use Rattle.record_grammar.specs.Reading.{found_in}
use Rattle.record_grammar.specs.declared.reading.Found.{Found}
use Rattle.record_grammar.specs.declared.reading.Found.TheVariants as found

-- what is read is spelled so, by as many of the bytes as the answer says; where more is wanted, less than the longest
-- record is there
abbrev pub IsSpelled : List ℕ → Found → Type 0
IsSpelled bytes (found.One r used) = (4 ≤ used) × (used ≤ length bytes) × Spells r (take used bytes)
IsSpelled bytes (found.Skipped type_byte used) = (4 ≤ used) × (used ≤ length bytes) × Skips type_byte (take used bytes)
IsSpelled bytes found.More = length bytes < MAX_RECORD
IsSpelled bytes (found.Bad why) = Unit {0}

-- what spells a record is read as that record, whatever follows
abbrev pub RecordsReadBack : Type 0
RecordsReadBack = (r : Record) (bytes more : List ℕ) → Spells r bytes → found_in (bytes ++ more) ≡ found.One r (length bytes)

-- what is passed over is passed over, whatever follows
abbrev pub SkippedReadBack : Type 0
SkippedReadBack = (type_byte : ℕ) (bytes more : List ℕ) → Skips type_byte bytes → found_in (bytes ++ more) ≡ found.Skipped type_byte (length bytes)

-- bytes that are a whole record or a whole skipped one
abbrev pub IsWholeRecord : List ℕ → Type 0
IsWholeRecord bytes = ((r : Record) × Spells r bytes) ⊎ ((type_byte : ℕ) × Skips type_byte bytes)

-- no spelling, and no skipped record, is a proper prefix of another
abbrev pub NoRecordBeginsAnother : Type 0
NoRecordBeginsAnother = (bytes more : List ℕ) → IsWholeRecord bytes → IsWholeRecord (bytes ++ more) → more ≡ []

-- bytes that spell two records spell one
abbrev pub SpellingsAreExact : Type 0
SpellingsAreExact = (r s : Record) (bytes : List ℕ) → Spells r bytes → Spells s bytes → r ≡ s

-- an answer other than More stays, whatever follows
abbrev pub DecisionsStay : Type 0
DecisionsStay = (bytes more : List ℕ) → found_in bytes ≢ found.More → found_in (bytes ++ more) ≡ found_in bytes

-- These parts are whole records and skipped ones, and these are the items that they make, the first at this place.
abbrev pub AreCutAs : ℕ → List (List ℕ) → List Item → Type 0
AreCutAs place [] [] = Unit {0}
AreCutAs place [] (i ∷ its) = ⊥
AreCutAs place (part ∷ parts) [] = ⊥
AreCutAs place (part ∷ parts) (item.One at r ∷ its) = (at ≡ place) × Spells r part × AreCutAs (advanced place (length part)) parts its
AreCutAs place (part ∷ parts) (item.Skipped at type_byte len ∷ its) =
    (at ≡ place) × Skips type_byte part × (length part ≡ 4 + len) × AreCutAs (advanced place (length part)) parts its

-- Whatever whole records and skipped ones some bytes begin with, the stream's items begin with theirs: no item is missed,
-- and none is read otherwise.
abbrev pub ItemsAreLongest : Type 0
ItemsAreLongest = (place : ℕ) (parts : List (List ℕ)) (its : List Item) (more : List ℕ) → AreCutAs place parts its
    → (later : List Item) × (items place (joined parts ++ more) ≡ its ++ later)

-- a stream is made of its items, and of a rest at whose front stands no further one
pub record IsMadeOf (place : ℕ) (bytes : List ℕ) (parts : List (List ℕ)) : Type 0 where
  pub cut : AreCutAs place parts (items place bytes)
  pub whole : bytes ≡ joined parts ++ rest place bytes
  pub no_more : IsRest (rest place bytes)

abbrev pub StreamsAreMadeOfItems : Type 0
StreamsAreMadeOfItems = (place : ℕ) (bytes : List ℕ) → ((i : ℕ) → slice_index bytes i < 256)
    → (parts : List (List ℕ)) × IsMadeOf place bytes parts

-- Records that are spelled one behind the other are the first items of what they begin, each at its place, and what
-- follows comes behind them.
abbrev pub SpelledRecordsReadBack : Type 0
SpelledRecordsReadBack = (place : ℕ) (rs : List Record) (more : List ℕ) → AllByRecursion IsRecord rs
    → (items place (spelled rs ++ more) ≡ placed place rs ++ items (behind place rs) more)
    × (ending place (spelled rs ++ more) ≡ ending (behind place rs) more)

-- Alone they are a stream of these records that ends clean.
abbrev pub SpelledRecordsAreStreams : Type 0
SpelledRecordsAreStreams = (rs : List Record) → AllByRecursion IsRecord rs
    → (items 0 (spelled rs) ≡ placed 0 rs) × (records (spelled rs) ≡ rs) × (ending 0 (spelled rs) ≡ ending_kind.Clean)

-- a stream goes on behind its rest
abbrev pub StreamsGoOn : Type 0
StreamsGoOn = (place : ℕ) (bytes : List ℕ) → GoesOnBehind place bytes

-- the records of a front of a stream are a front of its records
abbrev pub FrontsHaveFronts : Type 0
FrontsHaveFronts = (bytes more : List ℕ) → (later : List Record) × (records (bytes ++ more) ≡ records bytes ++ later)

-- the records of items are those of the first and those of the others
abbrev pub RecordsJoin : Type 0
RecordsJoin = (its others : List Item) → records_of (its ++ others) ≡ records_of its ++ records_of others

-- an unfinished rest gives no item, and it is its own rest
abbrev pub RestsGiveNothing : Type 0
RestsGiveNothing = (place : ℕ) (bytes : List ℕ) → IsRest bytes
    → (items place bytes ≡ []) × (rest place bytes ≡ bytes) × (rest_place place bytes ≡ place)

-- the ending is that of the rest: nothing, the front of a record that more bytes may complete, or what is no record
abbrev pub EndingsAreOfRests : Type 0
EndingsAreOfRests = (place : ℕ) (bytes : List ℕ) → EndsWith (rest_place place bytes) (rest place bytes) (ending place bytes)
