-- The lines that stand before a request and before an answer.
use Rattle.std.specs.Prelude.{ℕ, Bool, ◌&&◌, ◌==◌, ◌+◌, ◌≤◌, nat_le, nat_lt, if◌then◌else◌, List, [], ◌∷◌, ◌++◌, length, take, codes, decimal}
use Rattle.std.specs.Prelude.{Option, Some, None}
use Rattle.std.specs.List.{after_first, before_first, position}
use Rattle.std.specs.Str.{bytes_eq}
use Rattle.std.specs.Str.Parse.{digits_value}
use Rattle.request_frames.specs.declared.head.TheConstants.{HEAD_LEN, MAX_INPUT, MAX_WORDS}
use Rattle.request_frames.specs.declared.head.FoundHead.{FoundHead}
use Rattle.request_frames.specs.declared.head.FoundHead.TheVariants as found
use Rattle.request_frames.specs.declared.head.Head.{Head}
use Rattle.request_frames.specs.declared.head.InputSize.{InputSize}
use Rattle.request_frames.specs.declared.head.InputSize.TheVariants as size

-- ---- how a head is spelled

-- how many bytes of input follow
abbrev pub length_of : InputSize → ℕ
length_of (size.Bytes n) = n
length_of size.Failed = 0
length_of size.Long = 0

abbrev pub size_text : InputSize → List ℕ
size_text (size.Bytes n) = decimal n
size_text size.Failed = codes "failed"
size_text size.Long = codes "long"

-- the line before a request
abbrev pub head_text : Head → List ℕ
head_text h = decimal h.words ++ (32 ∷ size_text h.input ++ 10 ∷ [])

-- within the limits
pub record IsHead (h : Head) : Type 0 where
  pub words : h.words ≤ MAX_WORDS
  pub input : length_of h.input ≤ MAX_INPUT

-- the line before an answer: its status, and the lengths of what its output and its error output get
abbrev pub answer_line : (status out error : ℕ) → List ℕ
answer_line status out error = decimal status ++ (32 ∷ decimal out ++ (32 ∷ decimal error ++ 10 ∷ []))

-- ---- how a head is read

abbrev pub is_space : ℕ → Bool
is_space b = b == 32

abbrev pub is_feed : ℕ → Bool
is_feed b = b == 10

-- the number up to a greatest one whose decimal spelling a word is: no sign and no leading zero
unfoldable pub number_in : ℕ → List ℕ → Option ℕ
number_in most word =
    if bytes_eq word (decimal (digits_value 10 word)) && nat_le (digits_value 10 word) most then Some (digits_value 10 word) else None

abbrev pub some_bytes : Option ℕ → Option InputSize
some_bytes (Some n) = Some (size.Bytes n)
some_bytes None = None

abbrev pub size_in : List ℕ → Option InputSize
size_in word =
    if bytes_eq word (codes "failed") then Some size.Failed
    else if bytes_eq word (codes "long") then Some size.Long
    else some_bytes (number_in MAX_INPUT word)

abbrev pub both : Option ℕ → Option InputSize → Option Head
both (Some words) (Some input) = Some (record { words = words; input = input })
both (Some words) None = None
both None input = None

-- the head that a line is, but for its line feed: what stands before its first space, and what behind
unfoldable pub head_on : List ℕ → Option Head
head_on line = both (number_in MAX_WORDS (before_first is_space line)) (size_in (after_first is_space line))

abbrev pub found_head : ℕ → Option Head → FoundHead
found_head used (Some h) = found.Whole h used
found_head used None = found.Fault

abbrev pub found_line : List ℕ → Option ℕ → FoundHead
found_line bytes (Some n) = found_head (n + 1) (head_on (take n bytes))
found_line bytes None = if nat_lt (length bytes) HEAD_LEN then found.More else found.Fault

-- What stands at the front of some bytes: the line up to the first line feed, of at most HEAD_LEN bytes
-- with it.
unfoldable pub head_in : List ℕ → FoundHead
head_in bytes = found_line bytes (position is_feed (take HEAD_LEN bytes))
