-- What a link in memory is still to answer.
use Rattle.std.specs.Prelude.{◌≡◌, ℕ, ◌-◌, ◌<◌, ◌≤◌, List, [], ◌∷◌, ◌++◌, length, drop, Option, None, Some, All}
use Rattle.outside.specs.declared.answer.Answer.{Answer}
use Rattle.outside.specs.declared.answer.Answer.TheVariants as code
use Rattle.outside.specs.Links.{Reply, got, idle, ended, Planned, pause, close, failure}
use Rattle.outside.specs.Planned.{pieces}

-- an answer as a script has it, of bytes those from a place on
abbrev pub planned_from : ℕ → Answer → List Planned
planned_from at (code.Bytes bytes) = pieces (drop at bytes.items)
planned_from at code.Idle = pause ∷ []
planned_from at code.End = close ∷ []
planned_from at code.Fail = failure ∷ []

abbrev pub planned_of : Answer → List Planned
planned_of answer = planned_from 0 answer

abbrev pub plan : List Answer → List Planned
plan [] = []
plan (answer ∷ answers) = planned_of answer ++ plan answers

-- the same where the first answer was heard up to a place
abbrev pub plan_from : ℕ → List Answer → List Planned
plan_from at [] = []
plan_from at (answer ∷ answers) = planned_from at answer ++ plan answers

-- bytes fit into the room that there is, and are some where there is room
abbrev pub FitsIn : ℕ → Option Reply → Type 0
FitsIn room None = Unit {0}
FitsIn room (Some (got bytes)) = (0 < room → 0 < length bytes) × (length bytes ≤ room)
FitsIn room (Some idle) = Unit {0}
FitsIn room (Some ended) = Unit {0}

-- ---- the answers of a script as it is kept

-- how many bytes an answer has from a place on
abbrev pub left_in : ℕ → Answer → ℕ
left_in at (code.Bytes bytes) = length bytes.items - at
left_in at code.Idle = 0
left_in at code.End = 0
left_in at code.Fail = 0

-- an answer with something to hear
abbrev pub BringsBytes : Answer → Type 0
BringsBytes (code.Bytes bytes) = 0 < length bytes.items
BringsBytes code.Idle = Unit {0}
BringsBytes code.End = Unit {0}
BringsBytes code.Fail = Unit {0}

-- the first answer has bytes from this place on, or is none of bytes and heard from its begin
abbrev pub IsPlaceIn : ℕ → List Answer → Type 0
IsPlaceIn at [] = at ≡ 0
IsPlaceIn at (code.Bytes bytes ∷ rest) = at < length bytes.items
IsPlaceIn at (code.Idle ∷ rest) = at ≡ 0
IsPlaceIn at (code.End ∷ rest) = at ≡ 0
IsPlaceIn at (code.Fail ∷ rest) = at ≡ 0

pub record IsAnswerReady (next at : ℕ) (answers : List Answer) : Type 0 where
  pub within : next ≤ length answers
  pub place : IsPlaceIn at (drop next answers)
  pub full : All BringsBytes answers
