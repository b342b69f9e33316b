-- The input of a request, as its command reads it.
use Rattle.std.specs.Prelude.{◌≡◌, ◌<◌, List, [], ◌∷◌, ℕ, ◌++◌, length, replicate, take, Some}
use Rattle.outside.specs.Streams.{Stream}
use Rattle.record_grammar.specs.Stream.{items}
use Rattle.request_frames.specs.declared.head.InputSize.{InputSize}
use Rattle.request_frames.specs.declared.head.InputSize.TheVariants as size
use Rattle.request_frames.specs.declared.head.TheConstants.{MAX_INPUT}
use Rattle.node_life.specs.declared.input.Failing.{Failing}
use Rattle.node_life.specs.declared.input.Given.{Given}
use Rattle.node_life.specs.declared.input.TheConstants.{NO_RECORD}

-- ---- what is told of it

-- the bytes that are left, and a filling behind them; no call of it fails
abbrev pub given_told : Given → Stream
given_told given =
    record { bytes = Some (given.bytes.now ++ replicate given.filling NO_RECORD); faults = 0 }

-- a byte is left, and each call that is to read it fails
abbrev pub failing_told : Failing → Stream
failing_told failing = record { bytes = Some (NO_RECORD ∷ []); faults = failing.faults }

-- ---- the input of a request

-- more bytes than any command takes, none of which begins a record
pub record IsTooLong (bytes : List ℕ) : Type 0 where
  pub past : MAX_INPUT < length bytes
  pub none : items 0 (take MAX_INPUT bytes) ≡ []

-- such bytes are left
abbrev pub IsGivenTooLong : Stream → Type 0
IsGivenTooLong input = (long : List ℕ) × (input.bytes ≡ Some long) × IsTooLong long

-- The input of a request of which this was said, and whose bytes are these, before a command that
-- reads it and behind it: its bytes, and no call fails; more bytes than any command takes; or some
-- bytes, of which none is read.
abbrev pub ReadsGiven : InputSize → (bytes : List ℕ) → (input input' : Stream) → Type 0
ReadsGiven (size.Bytes n) bytes input input' =
    (input.bytes ≡ Some bytes) × (input'.faults ≡ input.faults)
ReadsGiven size.Long bytes input input' =
    IsGivenTooLong input × (input'.faults ≡ input.faults)
ReadsGiven size.Failed bytes input input' =
    ((left : List ℕ) × (input.bytes ≡ Some left) × (0 < length left))
    × (input'.bytes ≡ input.bytes)
