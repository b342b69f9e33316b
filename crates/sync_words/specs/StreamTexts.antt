-- The lines of the commands that read a stream of records.
use Rattle.std.specs.Prelude.{ℕ, List, [], ◌∷◌, ◌++◌, codes, length}
use Rattle.std.specs.List.{flat_map}
use Rattle.std.specs.Fmt.{decimal}
use Rattle.hex.specs.Hex.{encode_lower}
use Rattle.sync_ids.specs.Values.{MessageValue}
use Rattle.sync_ids.specs.Ids.{message_id_of}
use Rattle.sync_ids.specs.declared.records.Record.{Record}
use Rattle.sync_ids.specs.declared.records.Record.TheVariants as record_kind
use Rattle.sync_rules.specs.declared.states.Fate.{Fate}
use Rattle.sync_rules.specs.declared.states.Fate.TheVariants as fate

-- ---- `try`

-- what a line of `try` says of a message; one that is not judged is said to wait
abbrev pub try_word : Fate → List ℕ
try_word fate.Delivered = codes "deliver"
try_word fate.Invalid = codes "invalid"
try_word fate.Pending = codes "pending"
try_word fate.Unknown = codes "pending"

-- the word, the message's id, its time and the length of its body
abbrev pub try_text : Fate → (id : List ℕ) → (timestamp len : ℕ) → List ℕ
try_text state id timestamp len =
    try_word state ++ (32 ∷ encode_lower id ++ (32 ∷ decimal timestamp ++ (32 ∷ decimal len ++ 10 ∷ [])))

-- ---- `records`

-- a space and an id, for each id
abbrev pub ids_text : List (List ℕ) → List ℕ
ids_text ids = flat_map (λ id. 32 ∷ encode_lower id) ids

-- a space, the message's id, its group, its time and the length of its body
abbrev pub message_text : MessageValue → List ℕ
message_text m =
    32 ∷ encode_lower (message_id_of m) ++ (32 ∷ encode_lower m.group ++ (32 ∷ decimal m.timestamp ++ (32 ∷ decimal (length m.body))))

-- what stands behind the place
abbrev pub record_text : Record → List ℕ
record_text (record_kind.Ack ids) = codes "ACK" ++ ids_text ids
record_text (record_kind.Message m) = codes "MESSAGE" ++ message_text m
record_text (record_kind.Offer ids) = codes "OFFER" ++ ids_text ids
record_text (record_kind.Request ids) = codes "REQUEST" ++ ids_text ids
record_text (record_kind.Versions versions) = codes "VERSIONS" ++ 32 ∷ encode_lower versions
record_text (record_kind.Priority nonce) = codes "PRIORITY" ++ 32 ∷ encode_lower nonce

-- a record's line
abbrev pub placed_text : ℕ → Record → List ℕ
placed_text place r = decimal place ++ (32 ∷ record_text r ++ 10 ∷ [])

-- the line of a skipped record: its place, its byte of type and the length of its payload
abbrev pub skipped_text : ℕ → ℕ → ℕ → List ℕ
skipped_text place type_byte len =
    decimal place ++ (codes " SKIPPED " ++ (decimal type_byte ++ (32 ∷ decimal len ++ 10 ∷ [])))
