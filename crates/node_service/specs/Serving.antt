-- The steps of a node that serves.
use Rattle.std.specs.Prelude.{◌≡◌, ℕ, Bool, true, false, List, Result, Ok, Err}
use Rattle.std.specs.Io.KnownBytes.{Appends}
use Rattle.outside.specs.Faults.{CountRose}
use Rattle.outside.specs.Streams.{GetsFront, Stream}
use Rattle.outside.specs.declared.failed.Failed.{Failed}
use Rattle.request_frames.specs.Requests.{Request}
use Rattle.sync_words.specs.declared.outcome.Outcome.{Outcome}
use Rattle.sync_words.specs.declared.outcome.Outcome.TheVariants as outcome
use Rattle.node_service.specs.Lives.{Answered, Answers, fault_answer, spelled_answer}
use Rattle.node_service.specs.declared.life.Stop.{Stop}
use Rattle.node_service.specs.declared.life.Stop.TheVariants as stop

-- a sink got a front of a text, and a call of it failed
abbrev pub WritesFront : List ℕ → (out out' : Stream) → Type 0
WritesFront text out out' = CountRose out.faults out'.faults × GetsFront out out' text

-- a sink got a text, or a front of it
abbrev pub WritesText : List ℕ → (out out' : Stream) → Result (Unit {0}) Failed → Type 0
WritesText text out out' (Ok u) = Appends out.bytes out'.bytes text
WritesText text out out' (Err e) = WritesFront text out out'

-- a request was answered so, and the host is that behind it
pub record HasAnswered {H : Type 0} (answers : Answers H) (request : Request) (old new : H)
    (a : Answered H) : Type 0 where
  pub request_is : a.request ≡ request
  pub does : answers request old new a.came a.out a.ends
  pub after : a.after ≡ new

-- its answer was told, and the node goes on; or it ends there, or the answer was not told
abbrev pub ToldNext : {H : Type 0} → (a : Answered H) → (out out' : Stream)
    → Result (Unit {0}) Stop → Type 0
ToldNext a out out' (Ok u) =
    (a.ends ≡ false) × Appends out.bytes out'.bytes (spelled_answer a.came a.out)
ToldNext a out out' (Err (stop.With came)) =
    (a.ends ≡ true) × (came ≡ a.came) × Appends out.bytes out'.bytes (spelled_answer a.came a.out)
ToldNext a out out' (Err stop.Untold) = WritesFront (spelled_answer a.came a.out) out out'

pub record AnswersNext {H : Type 0} (answers : Answers H) (request : Request) (old new : H)
    (out out' : Stream) (result : Result (Unit {0}) Stop) : Type 0 where
  pub a : Answered H
  pub has : HasAnswered answers request old new a
  pub told : ToldNext a out out' result

-- what is answered in the one way is answered so in the other
abbrev pub AnswersAlike : {H : Type 0} → Answers H → Answers H → Type 0
AnswersAlike {H} now first =
    (request : Request) (old new : H) (came : Outcome) (out : List ℕ) (ends : Bool)
    → now request old new came out ends → first request old new came out ends

-- whether the node ends, by what it said
abbrev pub EndsAs : (ends : Bool) → Outcome → Result (Unit {0}) Stop → Type 0
EndsAs ends came (Ok u) = ends ≡ false
EndsAs ends came (Err (stop.With with)) = (ends ≡ true) × (with ≡ came)
EndsAs ends came (Err stop.Untold) = ⊥

-- what the node ends with
abbrev pub stopped_as : Stop → Outcome
stopped_as (stop.With came) = came
stopped_as stop.Untold = outcome.WriteFault

-- what follows is no request: that was told, or not
abbrev pub TellsFault : (out out' : Stream) → Outcome → Type 0
TellsFault out out' outcome.NoRequest = Appends out.bytes out'.bytes fault_answer
TellsFault out out' outcome.WriteFault = WritesFront fault_answer out out'
TellsFault out out' _ = ⊥
