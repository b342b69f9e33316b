-- What holds of all requests and of all answers.
use Rattle.std.specs.Prelude.{◌≡◌, ◌==◌, ℕ, ◌<◌, ◌^◌, List, [], ◌∷◌, ◌++◌, length, take}
use Rattle.request_frames.specs.declared.head.FoundHead.TheVariants as found
use Rattle.request_frames.specs.declared.head.Head.{Head}
use Rattle.request_frames.specs.declared.reader.Next.{Next}
use Rattle.request_frames.specs.declared.reader.Next.TheVariants as next
use Rattle.request_frames.specs.declared.reader.Stage.{Stage}
use Rattle.request_frames.specs.declared.reader.Stage.TheVariants as stage
use Rattle.request_frames.specs.Reading.{Awaits, KeepsMost, ReaderState, ReadsOn, StandsFor, end_at, fresh_reader}
use Rattle.request_frames.specs.Heads.{IsHead, answer_line, head_in, head_text}
use Rattle.request_frames.specs.Requests.{IsRequest, Request, ending, request_text, requests}

-- a head that is spelled is read as that head, whatever follows
abbrev pub HeadsReadBack : Type 0
HeadsReadBack = (h : Head) (more : List ℕ) → IsHead h → head_in (head_text h ++ more) ≡ found.Whole h (length (head_text h))

-- A request that is spelled is the first of what it begins, whatever follows, and that ends as what
-- follows does.
abbrev pub RequestsReadBack : Type 0
RequestsReadBack = (r : Request) (more : List ℕ) → IsRequest r
    → (requests (request_text r ++ more) ≡ r ∷ requests more) × (ending (request_text r ++ more) ≡ ending more)

-- what an answer is: its status, what its output gets, and what its error output gets
pub record Answer : Type 0 where
  pub status : ℕ
  pub out : List ℕ
  pub error : List ℕ

abbrev pub answer_text : Answer → List ℕ
answer_text a = answer_line a.status (length a.out) (length a.error) ++ (a.out ++ a.error)

pub record IsAnswer (a : Answer) : Type 0 where
  pub status : a.status < 2 ^ 64
  pub out : length a.out < 2 ^ 64
  pub error : length a.error < 2 ^ 64

-- bytes that begin with two answers begin with one
abbrev pub AnswersReadBack : Type 0
AnswersReadBack = (a b : Answer) (more others : List ℕ) → IsAnswer a → IsAnswer b
    → answer_text a ++ more ≡ answer_text b ++ others → (a ≡ b) × (more ≡ others)

-- ---- a stream that is heard in pieces

-- By these bytes of a stream, one piece behind the other, a reader came to where it stands and told
-- these requests: whatever follows, the requests of all are those told and those of what it holds, and
-- it ends as that does.
pub record HasRead (bytes : List ℕ) (told : List Request) (r : ReaderState) : Type 0 where
  pub held : List ℕ
  pub stands : StandsFor held r
  pub requests_are : (more : List ℕ) → requests (bytes ++ more) ≡ told ++ requests (held ++ more)
  pub ending_is : (more : List ℕ) → ending (bytes ++ more) ≡ ending (held ++ more)

-- the input of a request, of which so many bytes were to be kept
abbrev pub KeepsOf : Request → Stage → List ℕ → Type 0
KeepsOf request (stage.Whole size most) kept = (request.size ≡ size) × (kept ≡ take most request.input)
KeepsOf request _ kept = ⊥

-- one request, whose words and input are those that the reader has
pub record TellsOne (told : List Request) (r : ReaderState) : Type 0 where
  pub request : Request
  pub alone : told ≡ request ∷ []
  pub words : request.words ≡ r.front
  pub keeps : KeepsOf request r.at r.kept

-- what an answer tells
abbrev pub ToldBy : Next → List Request → ReaderState → Type 0
ToldBy next.Whole told r = TellsOne told r
ToldBy _ told r = told ≡ []

-- before anything was heard
abbrev pub ReadingsBegin : Type 0
ReadingsBegin = HasRead [] [] fresh_reader

-- what is heard comes behind
pub record ReadingMore (bytes taken : List ℕ) (told : List Request) (n : Next) (new : ReaderState) : Type 0 where
  pub behind : List Request
  pub tells : ToldBy n behind new
  pub has_read : HasRead (bytes ++ taken) (told ++ behind) new

abbrev pub ReadingsGoOn : Type 0
ReadingsGoOn = (bytes taken : List ℕ) (told : List Request) (old new : ReaderState) (n : Next) → HasRead bytes told old → ReadsOn taken old n new
    → ReadingMore bytes taken told n new

-- what is asked of an input changes nothing of what the stream has
abbrev pub KeepingGoesOn : Type 0
KeepingGoesOn = (bytes : List ℕ) (told : List Request) (old new : ReaderState) (most : ℕ) → HasRead bytes told old → KeepsMost most old new
    → HasRead bytes told new

-- Once all bytes of a stream were heard, in whatever pieces, the requests told are those of the stream,
-- and it ends as where the reader stands says.
abbrev pub ReadingsAreWhole : Type 0
ReadingsAreWhole = (bytes : List ℕ) (told : List Request) (r : ReaderState) → HasRead bytes told r → Awaits r
    → (requests bytes ≡ told) × (ending bytes ≡ end_at r.at (length r.front == 0))
