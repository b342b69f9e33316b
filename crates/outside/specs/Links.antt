-- The links of a host: to what they were dialled, what was sent, heard and read off the clock.
use Rattle.std.specs.Prelude.{ℕ, zero, suc, List, [], ◌∷◌, ◌++◌, map, Option, None, Some}
use Rattle.outside.specs.Faults.{one_more}

-- a list with the item of this number changed
abbrev pub changed_at : {A : Type 0} → ℕ → (A → A) → List A → List A
changed_at n f [] = []
changed_at zero f (x ∷ xs) = f x ∷ xs
changed_at (suc n) f (x ∷ xs) = x ∷ changed_at n f xs

-- a link: the spec that it was dialled with, and the bytes sent so far
pub record ToldLink : Type 0 where
  pub spec : List ℕ
  pub sent : List ℕ

-- an answer of a link that is no failure
pub data Reply : Type 0 where
  got : List ℕ → Reply
  idle : Reply
  ended : Reply

-- an answer, with the number of failures between the answer before it and it, and the length of the buffer handed in
pub record Answered : Type 0 where
  pub failures : ℕ
  pub room : ℕ
  pub reply : Reply

-- what was heard on a link: its answers in order, and the number of failures since the last one, which stands still at 2^64 - 1
pub record HeardOn : Type 0 where
  pub answers : List Answered
  pub failures : ℕ

abbrev pub nothing_heard : HeardOn
nothing_heard = record { answers = []; failures = 0 }

abbrev pub hear_reply : ℕ → Reply → HeardOn → HeardOn
hear_reply room reply heard = record { answers = heard.answers ++ record { failures = heard.failures; room = room; reply = reply } ∷ []; failures = 0 }

abbrev pub hear_failure : HeardOn → HeardOn
hear_failure heard = record heard { failures = one_more heard.failures }

-- what a link is yet going to answer: bytes, nothing for now, the other side's end, or a failure
pub data Planned : Type 0 where
  piece : List ℕ → Planned
  pause : Planned
  close : Planned
  failure : Planned

-- How many links were made; the failures of each link's calls, those of the dial that was made while so many links
-- stood included; and where they are told, each link's spec and sent bytes, what each heard, and the clock's readings.
-- An object in memory tells also what each link, made or not, is yet going to answer, and the readings to come.
pub record Links : Type 0 where
  pub dialled : ℕ
  pub faults : ℕ → ℕ
  pub told : Option (List ToldLink)
  pub heard : Option (List HeardOn)
  pub readings : Option (List ℕ)
  pub planned : Option (ℕ → List Planned)
  pub upcoming : Option (List ℕ)

-- the bytes sent so far on each link; none where they are not told
abbrev pub sent_of : Option (List ToldLink) → List (List ℕ)
sent_of None = []
sent_of (Some links) = map (λ link. link.sent) links

-- these bytes sent on this link
abbrev pub with_sent : ℕ → List ℕ → List ToldLink → List ToldLink
with_sent link bytes links = changed_at link (λ l. record l { sent = l.sent ++ bytes }) links

-- what a disk without links tells
abbrev pub no_links : Links
no_links = record { dialled = 0; faults = λ _. 0; told = Some []; heard = Some []; readings = Some []; planned = None; upcoming = None }
