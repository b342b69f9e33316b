-- A stream of requests: those that stand whole in it one behind the other, and how it ends.
use Rattle.std.specs.Prelude.{◌≡◌, ℕ, zero, suc, Bool, true, ◌||◌, ◌==◌, ◌-◌, ◌≤◌, nat_lt, if◌then◌else◌, List, [], ◌∷◌, ◌++◌, length, take, drop, slice_index}
use Rattle.request_frames.specs.declared.head.TheConstants.{MAX_INPUT, MAX_WORDS}
use Rattle.request_frames.specs.declared.head.FoundHead.{FoundHead}
use Rattle.request_frames.specs.declared.head.FoundHead.TheVariants as head
use Rattle.request_frames.specs.declared.head.Head.{Head}
use Rattle.request_frames.specs.declared.head.InputSize.{InputSize}
use Rattle.request_frames.specs.declared.reader.Ending.{Ending}
use Rattle.request_frames.specs.declared.reader.Ending.TheVariants as ends
use Rattle.request_frames.specs.Heads.{head_in, head_text, length_of}

-- the words, a zero byte behind each; what the head says of the input; and the input's bytes
pub record Request : Type 0 where
  pub words : List ℕ
  pub size : InputSize
  pub input : List ℕ

-- no words, or the last byte is zero
abbrev pub are_words : List ℕ → Bool
are_words words = (length words == 0) || (slice_index words (length words - 1) == 0)

-- the line before it
abbrev pub head_of : Request → Head
head_of r = record { words = length r.words; input = r.size }

-- how a request is spelled
abbrev pub request_text : Request → List ℕ
request_text r = head_text (head_of r) ++ (r.words ++ r.input)

-- within the limits, and of the length that its head says
pub record IsRequest (r : Request) : Type 0 where
  pub short : length r.words ≤ MAX_WORDS
  pub ended : are_words r.words ≡ true
  pub sized : length r.input ≡ length_of r.size
  pub limited : length_of r.size ≤ MAX_INPUT

-- ---- one request

-- what stands at the front of some bytes: a request and what follows it, or it is not there whole, or
-- there is none
pub data Found : Type 0 where
  One : Request → List ℕ → Found
  More : Found
  Fault : Found

abbrev pub found_behind : InputSize → (words rest : List ℕ) → Found
found_behind size words rest =
    if nat_lt (length rest) (length_of size) then More
    else One (record { words = words; size = size; input = take (length_of size) rest }) (drop (length_of size) rest)

abbrev pub found_words : Head → List ℕ → Found
found_words h rest =
    if nat_lt (length rest) h.words then More
    else if are_words (take h.words rest) then found_behind h.input (take h.words rest) (drop h.words rest)
    else Fault

abbrev pub found_at : FoundHead → List ℕ → Found
found_at (head.Whole h used) bytes = found_words h (drop used bytes)
found_at head.More bytes = More
found_at head.Fault bytes = Fault

unfoldable pub found_in : List ℕ → Found
found_in bytes = found_at (head_in bytes) bytes

-- ---- all requests

-- some requests, and what follows them
pub record Parsed : Type 0 where
  pub requests : List Request
  pub rest : List ℕ

abbrev pub before : Request → Parsed → Parsed
before r later = record { requests = r ∷ later.requests; rest = later.rest }

abbrev pub stop : List ℕ → Parsed
stop bytes = record { requests = []; rest = bytes }

abbrev pub step : Found → List ℕ → (List ℕ → Parsed) → Parsed
step (One r rest) bytes later = before r (later rest)
step More bytes later = stop bytes
step Fault bytes later = stop bytes

-- the first n requests, or as many as there are
unfoldable pub parsed : ℕ → List ℕ → Parsed
parsed zero bytes = stop bytes
parsed (suc n) bytes = step (found_in bytes) bytes (λ rest. parsed n rest)

-- the requests of a stream
unfoldable pub requests : List ℕ → List Request
requests bytes = (parsed (length bytes) bytes).requests

-- what follows them
unfoldable pub rest : List ℕ → List ℕ
rest bytes = (parsed (length bytes) bytes).rest

abbrev pub ending_for : List ℕ → Found → Ending
ending_for [] f = ends.Clean
ending_for (b ∷ bytes) Fault = ends.Fault
ending_for (b ∷ bytes) f = ends.Inside

-- how a stream ends
unfoldable pub ending : List ℕ → Ending
ending bytes = ending_for (rest bytes) (found_in (rest bytes))
