-- How records are spelled (BSP, "Records"): a byte of version 0, a byte of type, two bytes of the payload's length, and the
-- payload.
use Rattle.std.specs.Prelude.{◌≡◌, ℕ, ◌<◌, ◌≤◌, List, ◌∷◌, ◌++◌, length}
use Rattle.std.specs.Int.{w16, w64, to_be_bytes}
use Rattle.std.specs.List.{flat_map}
use Rattle.sync_ids.specs.Values.{MessageValue}
use Rattle.sync_ids.specs.Records.{IsRecord}
use Rattle.sync_ids.specs.declared.records.Record.{Record}
use Rattle.sync_ids.specs.declared.records.Record.TheVariants as record_kind
use Rattle.record_grammar.specs.declared.front.TheConstants.{MAX_PAYLOAD}

-- version, type and payload length
abbrev pub header : ℕ → ℕ → List ℕ
header type_byte len = 0 ∷ type_byte ∷ to_be_bytes w16 len

-- the byte of type of a record
abbrev pub type_of : Record → ℕ
type_of (record_kind.Ack ids) = 0
type_of (record_kind.Message message) = 1
type_of (record_kind.Offer ids) = 2
type_of (record_kind.Request ids) = 3
type_of (record_kind.Versions versions) = 4
type_of (record_kind.Priority nonce) = 5

-- ids one behind the other
abbrev pub joined : List (List ℕ) → List ℕ
joined ids = flat_map (λ id. id) ids

-- what follows the header of a message: its group's id, its time in eight bytes and its body
abbrev pub message_payload : MessageValue → List ℕ
message_payload message = message.group ++ (to_be_bytes w64 message.timestamp ++ message.body)

-- what follows the header: ids, or the parts of a message, or version bytes, or a nonce
abbrev pub payload_of : Record → List ℕ
payload_of (record_kind.Ack ids) = joined ids
payload_of (record_kind.Message message) = message_payload message
payload_of (record_kind.Offer ids) = joined ids
payload_of (record_kind.Request ids) = joined ids
payload_of (record_kind.Versions versions) = versions
payload_of (record_kind.Priority nonce) = nonce

-- a payload with its header
abbrev pub framed : ℕ → List ℕ → List ℕ
framed type_byte payload = header type_byte (length payload) ++ payload

-- the one spelling of a record
unfoldable pub spelling : Record → List ℕ
spelling r = framed (type_of r) (payload_of r)

-- records, spelled one behind the other
abbrev pub spelled : List Record → List ℕ
spelled rs = flat_map spelling rs

-- these bytes spell this record, which is within its limits
pub record Spells (r : Record) (bytes : List ℕ) : Type 0 where
  pub within : IsRecord r
  pub is : bytes ≡ spelling r

-- these bytes are a whole record of another type, which is passed over
pub record Skips (type_byte : ℕ) (bytes : List ℕ) : Type 0 where
  pub payload : List ℕ
  pub other : 5 < type_byte
  pub short : length payload ≤ MAX_PAYLOAD
  pub is : bytes ≡ framed type_byte payload

-- new is old with some bytes at its end
abbrev pub AddsTo : List ℕ → List ℕ → Type 0
AddsTo old new = (more : List ℕ) × (new ≡ old ++ more)
