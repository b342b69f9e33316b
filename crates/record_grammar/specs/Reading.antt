-- What stands at the front of some bytes. It is decided at three points: at the first byte, at the fourth, and when the
-- whole record is there.
use Rattle.std.specs.Prelude.{◌≡◌, ℕ, zero, suc, ◌+◌, ◌*◌, ◌/◌, ◌%◌, ◌^◌, ◌<◌, ◌≤◌, List, [], ◌∷◌, length, take, drop, Option, Some, None, ◌==◌, nat_lt, if◌then◌else◌}
use Rattle.std.specs.Int.{w64, from_be_bytes}
use Rattle.sync_ids.specs.Values.{MessageValue}
use Rattle.sync_ids.specs.declared.lists.TheConstants.{MAX_VERSIONS}
use Rattle.sync_ids.specs.declared.message.TheConstants.{MAX_BODY}
use Rattle.sync_ids.specs.declared.records.Record.TheVariants as record_kind
use Rattle.record_grammar.specs.declared.front.TheConstants.{BODY_AT, MAX_PAYLOAD, MAX_RECORD, NONCE_LEN}
use Rattle.record_grammar.specs.declared.front.Front.{Front}
use Rattle.record_grammar.specs.declared.front.Front.TheVariants as front
use Rattle.record_grammar.specs.declared.front.Kind.{Kind}
use Rattle.record_grammar.specs.declared.front.Kind.TheVariants as kind
use Rattle.record_grammar.specs.declared.front.Reason.{Reason}
use Rattle.record_grammar.specs.declared.front.Reason.TheVariants as reason
use Rattle.record_grammar.specs.declared.reading.Found.{Found}
use Rattle.record_grammar.specs.declared.reading.Found.TheVariants as found

-- what a byte of type says
abbrev pub kind_of : ℕ → Kind
kind_of type_byte =
    if type_byte == 0 then kind.Ack
    else if type_byte == 1 then kind.Message
    else if type_byte == 2 then kind.Offer
    else if type_byte == 3 then kind.Request
    else if type_byte == 4 then kind.Versions
    else if type_byte == 5 then kind.Priority
    else kind.Other

-- a list of ids has at least one, and whole ones only
abbrev pub refused_ids : ℕ → Option Reason
refused_ids len = if len == 0 then Some reason.EmptyIds else if len % 32 == 0 then None else Some reason.RaggedIds

-- the lengths that a payload of each kind may not have
abbrev pub refused_for : Kind → ℕ → Option Reason
refused_for kind.Ack len = refused_ids len
refused_for kind.Message len = if nat_lt len (BODY_AT + 1) then Some reason.ShortMessage else if nat_lt (BODY_AT + MAX_BODY) len then Some reason.BodyTooLong else None
refused_for kind.Offer len = refused_ids len
refused_for kind.Request len = refused_ids len
refused_for kind.Versions len = if len == 0 then Some reason.BadVersions else if nat_lt MAX_VERSIONS len then Some reason.BadVersions else None
refused_for kind.Priority len = if len == NONCE_LEN then None else Some reason.BadNonce
refused_for kind.Other len = None

-- the second point: the payload's length, for every type, and then by type
abbrev pub refused_length : Kind → ℕ → Option Reason
refused_length k len = if nat_lt MAX_PAYLOAD len then Some reason.TooLong else refused_for k len

-- the time of a message, from its payload
abbrev pub timestamp_in : List ℕ → ℕ
timestamp_in payload = from_be_bytes w64 (take 8 (drop 32 payload))

-- the third point: the top bit of a message's time
abbrev pub decided_payload : Kind → ℕ → List ℕ → Front
decided_payload kind.Message type_byte payload =
    if nat_lt (timestamp_in payload) (2 ^ 63) then front.Whole type_byte (length payload) else front.Bad reason.BadTimestamp
decided_payload k type_byte payload = front.Whole type_byte (length payload)

abbrev pub decided_by : Option Reason → Front → Front
decided_by (Some why) later = front.Bad why
decided_by None later = later

abbrev pub decided_header : Kind → ℕ → ℕ → List ℕ → Front
decided_header k type_byte len rest =
    decided_by (refused_length k len) (if nat_lt (length rest) len then front.More else decided_payload k type_byte (take len rest))

-- the bytes after a version of 0
abbrev pub decided_rest : List ℕ → Front
decided_rest (type_byte ∷ high ∷ low ∷ rest) = decided_header (kind_of type_byte) type_byte (high * 256 + low) rest
decided_rest bytes = front.More

-- what stands at the front: a whole payload of this type and length, or a refusal, or not enough of either
unfoldable pub front_in : List ℕ → Front
front_in [] = front.More
front_in (version ∷ rest) = if version == 0 then decided_rest rest else front.Bad reason.WrongVersion

-- a whole record stands at the front: its length passes for its type, and so does its payload
pub record HasWhole (bytes : List ℕ) (type_byte len : ℕ) : Type 0 where
  pub fits : 4 + len ≤ length bytes
  pub passes : refused_length (kind_of type_byte) len ≡ None
  pub decided : decided_payload (kind_of type_byte) type_byte (take len (drop 4 bytes)) ≡ front.Whole type_byte len

-- what an answer says of the bytes beside the answer itself
abbrev pub AnswersBytes : List ℕ → Front → Type 0
AnswersBytes bytes front.More = length bytes < MAX_RECORD
AnswersBytes bytes (front.Bad why) = Unit {0}
AnswersBytes bytes (front.Whole type_byte len) = HasWhole bytes type_byte len

-- n ids
unfoldable pub ids_in : ℕ → List ℕ → List (List ℕ)
ids_in zero bytes = []
ids_in (suc n) bytes = take 32 bytes ∷ ids_in n (drop 32 bytes)

-- the ids, and the message, of a payload
abbrev pub ids_of : List ℕ → List (List ℕ)
ids_of payload = ids_in (length payload / 32) payload

abbrev pub message_of : List ℕ → MessageValue
message_of payload = record { group = take 32 payload; timestamp = timestamp_in payload; body = drop 40 payload }

-- what a whole record is read as
abbrev pub found_payload : Kind → ℕ → List ℕ → Found
found_payload kind.Ack type_byte payload = found.One (record_kind.Ack (ids_of payload)) (4 + length payload)
found_payload kind.Message type_byte payload = found.One (record_kind.Message (message_of payload)) (4 + length payload)
found_payload kind.Offer type_byte payload = found.One (record_kind.Offer (ids_of payload)) (4 + length payload)
found_payload kind.Request type_byte payload = found.One (record_kind.Request (ids_of payload)) (4 + length payload)
found_payload kind.Versions type_byte payload = found.One (record_kind.Versions payload) (4 + length payload)
found_payload kind.Priority type_byte payload = found.One (record_kind.Priority payload) (4 + length payload)
found_payload kind.Other type_byte payload = found.Skipped type_byte (4 + length payload)

abbrev pub found_at : Front → List ℕ → Found
found_at front.More bytes = found.More
found_at (front.Bad why) bytes = found.Bad why
found_at (front.Whole type_byte len) bytes = found_payload (kind_of type_byte) type_byte (take len (drop 4 bytes))

-- what is read at the front of some bytes, and how many of them it takes
unfoldable pub found_in : List ℕ → Found
found_in bytes = found_at (front_in bytes) bytes
