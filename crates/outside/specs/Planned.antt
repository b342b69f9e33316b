-- What links and a clock are yet going to answer, and how a call uses it up.
use Rattle.std.specs.Prelude.{◌≡◌, ◌≢◌, ◌⊎◌, ℕ, List, [], ◌∷◌, ◌++◌, length, take, drop, Option, None, Some, MatchOption}
use Rattle.outside.specs.declared.host.Heard.{Heard}
use Rattle.outside.specs.declared.host.Heard.TheVariants as heard
use Rattle.outside.specs.Links.{Reply, got, idle, ended, Planned, piece, pause, close, failure}

-- ---- answers of links

-- bytes as a part of a plan: nothing where there are none
abbrev pub pieces : List ℕ → List Planned
pieces [] = []
pieces (byte ∷ bytes) = piece (byte ∷ bytes) ∷ []

-- What a plan answers to a buffer of so many bytes: a part of its bytes fills the buffer, or is their last. A plan
-- that is used up answers the end. A failure is no reply.
abbrev pub reply_to : ℕ → List Planned → Option Reply
reply_to room [] = Some ended
reply_to room (piece bytes ∷ rest) = Some (got (take room bytes))
reply_to room (pause ∷ rest) = Some idle
reply_to room (close ∷ rest) = Some ended
reply_to room (failure ∷ rest) = None

-- what is left of it then
abbrev pub plan_after : ℕ → List Planned → List Planned
plan_after room [] = []
plan_after room (piece bytes ∷ rest) = pieces (drop room bytes) ++ rest
plan_after room (pause ∷ rest) = rest
plan_after room (close ∷ rest) = rest
plan_after room (failure ∷ rest) = rest

-- an answer as a reply, by what was put into the buffer
abbrev pub reply_in : Heard → List ℕ → Option Reply
reply_in (heard.Got n) buf = Some (got (take n buf))
reply_in heard.Idle buf = Some idle
reply_in heard.End buf = Some ended
reply_in heard.Failed buf = None

-- a link with a buffer of so many bytes answers what its plan has next, which is used up; the other plans stay
pub record UsesPlan (link room : ℕ) (reply : Option Reply) (old new : ℕ → List Planned) : Type 0 where
  pub next : reply_to room (old link) ≡ reply
  pub left : new link ≡ plan_after room (old link)
  pub others : (i : ℕ) → i ≢ link → new i ≡ old i

-- A link answers as planned; a failure that was not planned, for want of memory, leaves the plans.
abbrev pub AnswersAsPlanned : ℕ → Heard → List ℕ → (old new : ℕ → List Planned) → Type 0
AnswersAsPlanned link answer buf old new =
    MatchOption (reply_in answer buf) (UsesPlan link (length buf) None old new ⊎ (new ≡ old)) (λ reply. UsesPlan link (length buf) (Some reply) old new)

-- ---- readings of a clock

-- The readings to come are these in order, and then the last one again and again; with none of them, 0.
abbrev pub first_reading : List ℕ → ℕ
first_reading [] = 0
first_reading (at ∷ _) = at

abbrev pub later_readings : List ℕ → List ℕ
later_readings [] = []
later_readings (at ∷ []) = at ∷ []
later_readings (_ ∷ at ∷ rest) = at ∷ rest

pub record UsesReading (reading : ℕ) (old new : List ℕ) : Type 0 where
  pub next : reading ≡ first_reading old
  pub left : new ≡ later_readings old
