-- A reader of a stream that comes in pieces: at which bytes of a request it stands, its front as far as
-- it came, which is the head or the words, and what is kept of the input.
use Rattle.std.specs.Prelude.{◌≡◌, ℕ, ◌<◌, ◌≤◌, min, Bool, true, false, Option, Some, None, List, [], ◌++◌, length, take}
use Rattle.request_frames.specs.declared.head.TheConstants.{HEAD_LEN, MAX_INPUT, MAX_WORDS}
use Rattle.request_frames.specs.declared.head.FoundHead.TheVariants as found
use Rattle.request_frames.specs.declared.head.Head.{Head}
use Rattle.request_frames.specs.declared.head.InputSize.{InputSize}
use Rattle.request_frames.specs.declared.reader.Next.{Next}
use Rattle.request_frames.specs.declared.reader.Next.TheVariants as next
use Rattle.request_frames.specs.declared.reader.Stage.{Stage}
use Rattle.request_frames.specs.declared.reader.Stage.TheVariants as stage
use Rattle.request_frames.specs.declared.reader.Ending.{Ending}
use Rattle.request_frames.specs.declared.reader.Ending.TheVariants as ending
use Rattle.request_frames.specs.Heads.{head_in, length_of}
use Rattle.request_frames.specs.Requests.{Fault, One, Request, are_words, found_in}

pub record ReaderState : Type 0 where
  pub at : Stage
  pub front : List ℕ
  pub kept : List ℕ

-- a reader at the start of a stream
abbrev pub fresh_reader : ReaderState
fresh_reader = record { at = stage.Head; front = []; kept = [] }

-- whatever follows these bytes, they are a line with this head
abbrev pub IsLineOf : List ℕ → Head → Type 0
IsLineOf line h = (more : List ℕ) → head_in (line ++ more) ≡ found.Whole h (length line)

-- ---- for which bytes of a stream, behind its whole requests, a reader stands

pub record StandsInWords (held : List ℕ) (h : Head) (front : List ℕ) : Type 0 where
  pub line : List ℕ
  pub is : IsLineOf line h
  pub held_is : held ≡ line ++ front
  pub short : length front ≤ h.words

pub record StandsInInput (held : List ℕ) (size : InputSize) (most came : ℕ) (front kept : List ℕ) : Type 0 where
  pub line : List ℕ
  pub input : List ℕ
  pub is : IsLineOf line (record { words = length front; input = size })
  pub held_is : held ≡ line ++ (front ++ input)
  pub ended : are_words front ≡ true
  pub kept_is : kept ≡ take most input
  pub counted : length input ≡ came
  pub within : came ≤ length_of size

abbrev pub StandsAt : List ℕ → Stage → (front kept : List ℕ) → Type 0
StandsAt held stage.Head front kept = (held ≡ front) × (head_in front ≡ found.More)
StandsAt held (stage.Words h) front kept = StandsInWords held h front
StandsAt held (stage.Asked size) front kept = StandsInInput held size 0 0 front []
StandsAt held (stage.Input size most came) front kept = StandsInInput held size most came front kept
StandsAt held (stage.Whole size most) front kept = held ≡ []
StandsAt held stage.Fault front kept = (more : List ℕ) → found_in (held ++ more) ≡ Fault

abbrev pub StandsFor : List ℕ → ReaderState → Type 0
StandsFor held r = StandsAt held r.at r.front r.kept

-- ---- what every reader keeps

abbrev pub SoundAt : Stage → (front : List ℕ) (len kept room : ℕ) → Type 0
SoundAt stage.Head front len kept room = (head_in front ≡ found.More) × (len < HEAD_LEN)
SoundAt (stage.Words h) front len kept room = (len ≤ h.words) × (h.words ≤ MAX_WORDS) × (length_of h.input ≤ MAX_INPUT)
SoundAt (stage.Asked size) front len kept room = length_of size ≤ MAX_INPUT
SoundAt (stage.Input size most came) front len kept room =
    (came ≤ length_of size) × (kept ≡ min most came) × (min most (length_of size) ≤ room) × (length_of size ≤ MAX_INPUT)
SoundAt (stage.Whole size most) front len kept room = Unit {0}
SoundAt stage.Fault front len kept room = Unit {0}

-- a reader's fields: its front with its length and the room for it, and how much it keeps with the room
-- for that
pub record IsReaderSound (at : Stage) (front : List ℕ) (len front_room kept kept_room : ℕ) : Type 0 where
  pub sound : SoundAt at front len kept kept_room
  pub room : MAX_WORDS ≤ front_room

-- ---- what a reader tells

-- These bytes are a request, whatever follows them: its words are the front, and of its input no more
-- than was asked for is kept.
pub record IsTold (bytes : List ℕ) (size : InputSize) (most : ℕ) (front kept : List ℕ) : Type 0 where
  pub request : Request
  pub is : (more : List ℕ) → found_in (bytes ++ more) ≡ One request more
  pub words : request.words ≡ front
  pub sized : request.size ≡ size
  pub kept_is : kept ≡ take most request.input

abbrev pub ToldAt : List ℕ → Stage → (front kept : List ℕ) → Type 0
ToldAt bytes (stage.Whole size most) front kept = IsTold bytes size most front kept
ToldAt bytes _ front kept = ⊥

-- the bytes of a request that were taken by now, by the answer
abbrev pub Hears : Next → List ℕ → ReaderState → Type 0
Hears next.Whole bytes new = ToldAt bytes new.at new.front new.kept
Hears _ bytes new = StandsFor bytes new

-- a reader took these bytes and gave this answer
abbrev pub ReadsOn : List ℕ → ReaderState → Next → ReaderState → Type 0
ReadsOn taken old n new = (held : List ℕ) → StandsFor held old → Hears n (held ++ taken) new

-- ---- where it stands then

abbrev pub IsAsked : Stage → Type 0
IsAsked (stage.Asked size) = Unit {0}
IsAsked _ = ⊥

abbrev pub IsWhole : Stage → Type 0
IsWhole (stage.Whole size most) = Unit {0}
IsWhole _ = ⊥

-- no request stands whole in the bytes that came, and more are wanted
abbrev pub AwaitsAt : Stage → ℕ → Type 0
AwaitsAt stage.Head front = Unit {0}
AwaitsAt (stage.Words h) front = front < h.words
AwaitsAt (stage.Asked size) front = ⊥
AwaitsAt (stage.Input size most came) front = came < length_of size
AwaitsAt (stage.Whole size most) front = Unit {0}
AwaitsAt stage.Fault front = Unit {0}

abbrev pub Awaits : ReaderState → Type 0
Awaits r = AwaitsAt r.at (length r.front)

-- by the answer; where nothing is to be told, or nothing can be, all of the piece was taken
abbrev pub LeavesAt : Next → (used len : ℕ) → ReaderState → Type 0
LeavesAt next.Words used len new = IsAsked new.at
LeavesAt next.Whole used len new = IsWhole new.at
LeavesAt next.More used len new = (used ≡ len) × Awaits new
LeavesAt next.Fault used len new = (used ≡ len) × (new.at ≡ stage.Fault)

-- how many bytes of the input were asked for, inside it or behind it
abbrev pub asked_at : Stage → Option ℕ
asked_at (stage.Input size most came) = Some most
asked_at (stage.Whole size most) = Some most
asked_at _ = None

-- what stands asked once a reader has heard more from here: what was asked before the input began, and
-- nothing where it has not begun
abbrev pub asked_from : Stage → Option ℕ
asked_from (stage.Input size most came) = Some most
asked_from _ = None

-- the input that comes is kept, at most so many bytes of it
abbrev pub KeepsAt : ℕ → Stage → ReaderState → ReaderState → Type 0
KeepsAt most (stage.Asked size) old new = new ≡ record { at = stage.Input size most 0; front = old.front; kept = [] }
KeepsAt most _ old new = ⊥

abbrev pub KeepsMost : ℕ → ReaderState → ReaderState → Type 0
KeepsMost most old new = KeepsAt most old.at old new

-- what the head says of the input
abbrev pub size_at : Stage → Option InputSize
size_at (stage.Asked size) = Some size
size_at (stage.Input size most came) = Some size
size_at (stage.Whole size most) = Some size
size_at _ = None

-- how the stream ends where a reader stands so, with nothing in front or something
abbrev pub end_at : Stage → Bool → Ending
end_at stage.Head true = ending.Clean
end_at stage.Head false = ending.Inside
end_at (stage.Words h) empty = ending.Inside
end_at (stage.Asked size) empty = ending.Inside
end_at (stage.Input size most came) empty = ending.Inside
end_at (stage.Whole size most) empty = ending.Clean
end_at stage.Fault empty = ending.Fault
