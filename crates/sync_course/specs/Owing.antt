-- A machine whose steps are acts: what a batch adds to the output of a session is owed on its link.
-- Further batches may be committed behind it; then all is sent, before anything else is told of.
use Rattle.std.specs.Prelude.{◌≡◌, ◌⊎◌, ℕ, ◌+◌, cond, nat_eq, List, [], ◌++◌}
use Rattle.outside.specs.Runs.{IsFront}
use Rattle.record_grammar.specs.Spelling.{spelled}
use Rattle.sync_rules.specs.Facts.{Facts}
use Rattle.sync_rules.specs.Growth.{output_in}
use Rattle.sync_course.specs.Acts.{Act, Does, Fail, Send}
use Rattle.sync_course.specs.Events.{Break, Commit, Event, Pass}

-- a place, and the bytes that are to go out next on the link of each number
pub record Owing (P : Type 0) : Type 0 where
  pub at : P
  pub owed : ℕ → List ℕ

-- a place at which nothing is owed
abbrev pub paid : {P : Type 0} → P → Owing P
paid p = record { at = p; owed = λ link. [] }

-- what an event adds to the output of the session of a link, by the facts before it; the session of
-- the link of number 0 is the first
abbrev pub adds_to : Facts → ℕ → Event → ℕ → List ℕ
adds_to f first (Commit batch) link = spelled (output_in f (first + link) batch)
adds_to f first _ link = []

-- nothing is owed on any link
abbrev pub OwesNothing : {P : Type 0} → Owing P → Type 0
OwesNothing p = (link : ℕ) → p.owed link ≡ []

-- A batch may be committed while bytes are owed, and something may happen that is told of by
-- nothing; before anything else all of them are sent.
abbrev pub MayOwe : {P : Type 0} → Event → Owing P → Type 0
MayOwe (Commit batch) p = Unit {0}
MayOwe Pass p = Unit {0}
MayOwe _ p = OwesNothing p

-- some of the bytes that are owed on a link go out, and the rest is owed still; the machine below
-- stays where it is
pub record PaysSome {P : Type 0} (n : ℕ) (bytes : List ℕ) (p q : Owing P) : Type 0 where
  pub rest : List ℕ
  pub parts : p.owed n ≡ bytes ++ rest
  pub stays : q.at ≡ p.at
  pub left : (link : ℕ) → q.owed link ≡ cond (nat_eq n link) rest (p.owed link)

-- An event happens where it may with what is owed, and what it adds is owed behind that. All bytes
-- that are owed on a link go out, or some of them do; or a call that is to send some of them fails,
-- and no more is owed there. That all went out, or that a call failed, is a step of the machine
-- below as it is told.
abbrev pub ActStep : {P : Type 0} → (P → Facts) → ℕ → (P → Event → P → Type 0) → Owing P → Act
    → Owing P → Type 0
ActStep facts_at first step p (Does e) q =
    MayOwe e p × step p.at e q.at
    × ((link : ℕ) → q.owed link ≡ p.owed link ++ adds_to (facts_at p.at) first e link)
ActStep facts_at first step p (Send n bytes) q =
    ((bytes ≡ p.owed n) × step p.at Pass q.at
    × ((link : ℕ) → q.owed link ≡ cond (nat_eq n link) [] (p.owed link)))
    ⊎ PaysSome n bytes p q
ActStep facts_at first step p (Fail n bytes count) q =
    IsFront bytes (p.owed n) × step p.at (Break n) q.at
    × ((link : ℕ) → q.owed link ≡ cond (nat_eq n link) [] (p.owed link))
