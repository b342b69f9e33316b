-- The life of a node that answers the requests of a stream.
use Rattle.std.specs.Prelude.{◌≡◌, ◌⊎◌, ℕ, ◌+◌, ◌-◌, ◌^◌, ◌≤◌, Bool, true, false, List, [], ◌∷◌}
use Rattle.std.specs.Prelude.{◌++◌, length, map, codes, flat_map}
use Rattle.std.specs.Io.KnownBytes.{Appends, Consumes, IsAtEnd}
use Rattle.outside.specs.Faults.{CountRose}
use Rattle.outside.specs.Streams.{GetsFront, IsIdle, Stream}
use Rattle.request_frames.specs.Laws.{Answer, answer_text}
use Rattle.request_frames.specs.Requests.{Request, ending, requests}
use Rattle.request_frames.specs.declared.reader.Ending.TheVariants as ends
use Rattle.sync_words.specs.Outcomes.{status_of, text_of}
use Rattle.sync_words.specs.Statuses.{number_of}
use Rattle.sync_words.specs.declared.outcome.Outcome.{Outcome}
use Rattle.sync_words.specs.declared.outcome.Outcome.TheVariants as outcome

-- ---- what is told

-- what the node says first: that it is ready, and which framing it speaks
abbrev pub greeting : List ℕ
greeting = codes "node 1\n"

-- the answer to a request that came to this: its status and its line, and what the output gets
abbrev pub answer_of : Outcome → (out : List ℕ) → Answer
answer_of came out = record { status = number_of (status_of came); out = out; error = text_of came }

abbrev pub spelled_answer : Outcome → (out : List ℕ) → List ℕ
spelled_answer came out = answer_text (answer_of came out)

-- the answer to what is no request
abbrev pub fault_answer : List ℕ
fault_answer = spelled_answer outcome.NoRequest []

-- what was written to the output, where it goes out
abbrev pub shown_bytes : Bool → List ℕ → List ℕ
shown_bytes true out = out
shown_bytes false out = []

-- ---- requests that were answered

-- a request, what it came to, what the output got, whether the node ends behind it, and the host
-- then
pub record Answered (H : Type 0) : Type 0 where
  pub request : Request
  pub after : H
  pub came : Outcome
  pub out : List ℕ
  pub ends : Bool

-- how a node answers a request
abbrev pub Answers : Type 0 → Type 1
Answers H = Request → (old new : H) → Outcome → (out : List ℕ) → (ends : Bool) → Type 0

-- each was answered over the host that the one before left
abbrev pub AnsweredOn : {H : Type 0} → Answers H → H → List (Answered H) → Type 0
AnsweredOn answers o [] = Unit {0}
AnsweredOn answers o (a ∷ later) =
    answers a.request o a.after a.came a.out a.ends × AnsweredOn answers a.after later

-- the host behind the last
abbrev pub last_of : {H : Type 0} → H → List (Answered H) → H
last_of o [] = o
last_of o (a ∷ later) = last_of a.after later

-- the node went on behind each
abbrev pub GoOn : {H : Type 0} → List (Answered H) → Type 0
GoOn [] = Unit {0}
GoOn (a ∷ later) = (a.ends ≡ false) × GoOn later

-- it went on behind each but the last
abbrev pub GoOnToLast : {H : Type 0} → List (Answered H) → Type 0
GoOnToLast [] = Unit {0}
GoOnToLast (a ∷ []) = Unit {0}
GoOnToLast (a ∷ b ∷ later) = (a.ends ≡ false) × GoOnToLast (b ∷ later)

abbrev pub requests_of : {H : Type 0} → List (Answered H) → List Request
requests_of {H} answered = map (λ (a : Answered H). a.request) answered

-- all that is told
abbrev pub life_text : {H : Type 0} → List (Answered H) → List ℕ
life_text {H} answered =
    greeting ++ flat_map (λ (a : Answered H). spelled_answer a.came a.out) answered

-- ---- how a life ends

-- the node ended behind the last request, with what that came to
pub record EndsByRequest {H : Type 0} (answered : List (Answered H)) (out out' : Stream)
    (came : Outcome) : Type 0 where
  pub front : List (Answered H)
  pub last : Answered H
  pub are : answered ≡ front ++ last ∷ []
  pub go_on : GoOn front
  pub ends : last.ends ≡ true
  pub is : came ≡ last.came
  pub told : Appends out.bytes out'.bytes (life_text answered)

-- all requests were answered
pub record AreAll {H : Type 0} (read : List ℕ) (answered : List (Answered H)) (out out' : Stream)
    (more : List ℕ) : Type 0 where
  pub go_on : GoOn answered
  pub requests_are : requests read ≡ requests_of answered
  pub told : Appends out.bytes out'.bytes (life_text answered ++ more)

-- a write failed: of the greeting, of the last answer, or of the answer to what is no request
pub record EndsUntold {H : Type 0} (read : List ℕ) (answered : List (Answered H))
    (out out' : Stream) : Type 0 where
  pub rose : CountRose out.faults out'.faults
  pub more : List ℕ
  pub more_is : (more ≡ []) ⊎ ((more ≡ fault_answer) × (ending read ≡ ends.Fault))
  pub told : GetsFront out out' (life_text answered ++ more)

-- no memory was found to begin with: nothing was read, answered or written
pub record NeverServed {H : Type 0} (read : List ℕ) (answered : List (Answered H))
    (input input' out out' : Stream) : Type 0 where
  pub none_read : read ≡ []
  pub none_answered : answered ≡ []
  pub unread : IsIdle input input'
  pub quiet : IsIdle out out'

-- by the outcome: the input ended, in or behind a request; what follows is no request; a read of the
-- input failed; a write of the output failed; the input or the requests are more than can be counted;
-- or no memory was found to begin with
abbrev pub EndsByInput : {H : Type 0} (read : List ℕ) (answered : List (Answered H))
    (input input' out out' : Stream) → Outcome → Type 0
EndsByInput read answered input input' out out' outcome.Done =
    AreAll read answered out out' [] × IsAtEnd input'.bytes × (ending read ≡ ends.Fault → ⊥)
EndsByInput read answered input input' out out' outcome.NoRequest =
    AreAll read answered out out' fault_answer × (ending read ≡ ends.Fault)
EndsByInput read answered input input' out out' outcome.ReadFault =
    AreAll read answered out out' [] × CountRose input.faults input'.faults
EndsByInput read answered input input' out out' outcome.WriteFault =
    EndsUntold read answered out out'
EndsByInput read answered input input' out out' outcome.TooMuch =
    GoOn answered × (2 ^ 64 - 1 ≤ length read + length answered)
    × Appends out.bytes out'.bytes (life_text answered)
EndsByInput read answered input input' out out' outcome.Memory =
    NeverServed read answered input input' out out'
EndsByInput read answered input input' out out' _ = ⊥

-- A life: these bytes of the input were read, and of their requests the first were answered, in
-- order, each over the host that the one before left, which went on behind each but the last; the
-- output got the greeting and their answers.
pub record HasLived {H : Type 0} (answers : Answers H) (old new : H)
    (input input' out out' : Stream) (came : Outcome) : Type 0 where
  pub read : List ℕ
  pub consumed : Consumes input.bytes input'.bytes read
  pub answered : List (Answered H)
  pub are : AnsweredOn answers old answered
  pub last : new ≡ last_of old answered
  pub go_on : GoOnToLast answered
  pub later : List Request
  pub requests_are : requests read ≡ requests_of answered ++ later
  pub ended : EndsByRequest answered out out' came
      ⊎ EndsByInput read answered input input' out out' came
