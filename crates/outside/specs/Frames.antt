-- A journal file: a header of 14 bytes, and then frames up to a closed gate.
use Rattle.std.specs.Prelude.{◌≡◌, ◌≢◌, ℕ, ◌+◌, ◌≤◌, Bool, ◌&&◌, ◌||◌, not, nat_lt, nat_le, ◌==◌, if◌then◌else◌, List, ◌∷◌, ◌++◌, length, take, drop, slice_index, Option, None, Some, All}
use Rattle.std.specs.List.{flat_map}
use Rattle.std.specs.Int.{w32, w64, to_be_bytes, from_be_bytes}
use Rattle.outside.specs.declared.limits.TheConstants.{MAX_JOURNAL, MAX_FRAME}
use Rattle.outside.specs.Files.{Two, File, file_of, NothingPending}

-- ---- the header

-- A header is open where there are 14 bytes, the first is 1, and the next four are `BSPJ`.
abbrev pub is_open : List ℕ → Bool
is_open bytes =
    nat_le 14 (length bytes) && (slice_index bytes 0 == 1) && (slice_index bytes 1 == 66) && (slice_index bytes 2 == 83) && (slice_index bytes 3 == 80) && (slice_index bytes 4 == 74)

abbrev pub format_in : List ℕ → ℕ
format_in bytes = slice_index bytes 5

abbrev pub generation_in : List ℕ → ℕ
generation_in bytes = from_be_bytes w64 (take 8 (drop 6 bytes))

-- The journal's file is the one with an open header, of two the one with the greater generation, of two equal ones file 0.
abbrev pub journal_file : Two (List ℕ) → Option ℕ
journal_file two =
    if is_open two.first
    then (if is_open two.second && nat_lt (generation_in two.first) (generation_in two.second) then Some 1 else Some 0)
    else (if is_open two.second then Some 1 else None)

-- the 14 bytes of an open header
abbrev pub header_of : ℕ → ℕ → List ℕ
header_of format generation = 1 ∷ 66 ∷ 83 ∷ 80 ∷ 74 ∷ format ∷ to_be_bytes w64 generation

-- ---- frames

-- a frame's payload has 1 to 65,536 bytes
abbrev pub IsPayload : List ℕ → Type 0
IsPayload payload = (1 ≤ length payload) × (length payload ≤ MAX_FRAME)

-- a frame: an open gate, the payload's length, the payload
abbrev pub frame_of : List ℕ → List ℕ
frame_of payload = 1 ∷ (to_be_bytes w32 (length payload) ++ payload)

-- the place behind the closed gate that follows these frames
abbrev pub end_of : List (List ℕ) → ℕ
end_of payloads = 15 + length (flat_map frame_of payloads)

-- A file has these frames: they follow the 14 bytes of a header, and a closed gate follows them. What is behind it has no meaning.
pub record HasFrames (bytes header : List ℕ) (payloads : List (List ℕ)) : Type 0 where
  pub gate : ℕ
  pub rest : List ℕ
  pub whole : bytes ≡ header ++ flat_map frame_of payloads ++ gate ∷ rest
  pub closed : gate ≢ 1
  pub long : length header ≡ 14
  pub payloads_fit : All IsPayload payloads

-- Nothing is pending in the file, it has some frames, and `end` is the place behind their closed gate.
pub record IsAtRest (files : Two File) (file end : ℕ) : Type 0 where
  pub settled : NothingPending files file
  pub header : List ℕ
  pub payloads : List (List ℕ)
  pub frames : HasFrames (file_of files file).now header payloads
  pub end_is : end ≡ end_of payloads

-- ---- the frame at a place

-- no frame since the gate there is closed; a frame that is none; or a frame with its payload
pub data Frame : Type 0 where
  closed : Frame
  broken : Frame
  framed : List ℕ → Frame

-- the payload's length that a frame at this place has
abbrev pub size_at : List ℕ → ℕ → ℕ
size_at bytes place = from_be_bytes w32 (take 4 (drop (place + 1) bytes))

-- The frame at an open gate is broken where its length is not there, is 0 or over 65,536, its payload is not whole, or
-- it ends past the greatest place that a frame may reach.
abbrev pub is_broken : List ℕ → ℕ → Bool
is_broken bytes place =
    nat_lt (length bytes) (place + 5)
    || (size_at bytes place == 0)
    || nat_lt MAX_FRAME (size_at bytes place)
    || nat_lt (length bytes) (place + 5 + size_at bytes place)
    || nat_lt MAX_JOURNAL (place + 6 + size_at bytes place)

abbrev pub frame_at : List ℕ → ℕ → Frame
frame_at bytes place =
    if nat_le (length bytes) place
    then broken
    else (if not (slice_index bytes place == 1)
    then closed
    else (if is_broken bytes place then broken else framed (take (size_at bytes place) (drop (place + 5) bytes))))
