-- Messages that sleep: they have no step until something becomes of one of their dependencies.
use Rattle.std.specs.Prelude.{◌≡◌, ℕ, Bool, true, false, not, ◌&&◌, ◌||◌, nat_eq, List, [], Option, None, Some, slice_get}
use Rattle.std.specs.List.{list_all}
use Rattle.std.specs.Map.{lookup}
use Rattle.std.specs.Ordering.{is_eq}
use Rattle.sync_rules.specs.declared.answers.Judgement.{Judgement}
use Rattle.sync_rules.specs.declared.answers.Judgement.TheVariants as judgement
use Rattle.sync_rules.specs.Facts.{Facts, Id, id_cmp, nothing}
use Rattle.sync_rules.specs.Lists.{is_among}
use Rattle.sync_rules.specs.Steps.{is_failing, is_served, step_open}
use Rattle.journal_audit.specs.declared.messages.Line.{Line}
use Rattle.journal_audit.specs.Lines.{Kept, delivered_in, held_in, held_of, invalid_in}
use Rattle.journal_audit.specs.Numbers.{has}

-- what the step of a judged message looks at: which messages are held, and which are invalid and delivered
abbrev pub steps_of : Kept → Facts
steps_of kept = record nothing { held = held_in kept.lines; invalid = invalid_in kept.lines; delivered = delivered_in kept }

-- the dependencies of a message of which its client says this
abbrev pub deps_in : Judgement → List Id
deps_in judgement.Refuse = []
deps_in (judgement.Accept deps share) = deps

-- ---- who sleeps

-- for each id the numbers of the messages that sleep under it
abbrev pub SleeperLists : Type 0
SleeperLists = List (Id × List ℕ)

-- whether a number is in the list that was found
abbrev pub is_in : Option (List ℕ) → ℕ → Bool
is_in None n = false
is_in (Some numbers) n = has numbers n

-- whether a message of this number sleeps under an id
abbrev pub is_under : SleeperLists → Id → ℕ → Bool
is_under sleepers id n = is_in (lookup (λ k. is_eq (id_cmp id k)) sleepers) n

-- a message sleeps under each of these ids
abbrev pub SleepsUnder : SleeperLists → ℕ → List Id → Type 0
SleepsUnder sleepers n ids = (id : Id) → is_among ids id ≡ true → is_under sleepers id n ≡ true

-- a message is judged; and unless it has ended it has no step, and sleeps under each of its dependencies
pub record IsAtRest (kept : Kept) (sleepers : SleeperLists) (n : ℕ) (l : Line) : Type 0 where
  pub judged : l.judged ≡ true
  pub still : (l.delivered || l.invalid) ≡ false → (step_open (steps_of kept) (held_of l) l.answer ≡ None) × SleepsUnder sleepers n (deps_in l.answer)

-- a message that does not wait is at rest
abbrev pub WaitsOrRests : Kept → List ℕ → SleeperLists → Type 0
WaitsOrRests kept waiting sleepers =
    (n : ℕ) (l : Line) → slice_get kept.lines n ≡ Some l → has waiting n ≡ false → IsAtRest kept sleepers n l

-- ---- what wakes

-- whether what became of one dependency opens no step: the message has ended; or the dependency does not make it invalid, and
-- some dependency is not served yet
abbrev pub sleeps_on : Kept → Id → Option Line → Bool
sleeps_on kept id None = true
sleeps_on kept id (Some l) =
    (l.delivered || l.invalid)
    || (not (is_failing (steps_of kept) l.message.group id) && not (list_all (is_served (steps_of kept) l.message.group) (deps_in l.answer)))

-- a message of this number waits now, unless it sleeps on behind what became of an id; those that waited still wait
abbrev pub IsWoken : Kept → Id → ℕ → List ℕ → List ℕ → Type 0
IsWoken kept id number old new =
    (n : ℕ) → has new n ≡ false → (has old n ≡ false) × (nat_eq number n ≡ true → sleeps_on kept id (slice_get kept.lines n) ≡ true)

-- of these messages each waits now that does not sleep on behind what became of an id; those that waited still wait
abbrev pub AreWoken : Kept → Id → List ℕ → List ℕ → List ℕ → Type 0
AreWoken kept id numbers old new =
    (n : ℕ) → has new n ≡ false → (has old n ≡ false) × (has numbers n ≡ true → sleeps_on kept id (slice_get kept.lines n) ≡ true)

-- ---- what lays down

-- those who slept still sleep
abbrev pub SleepOn : SleeperLists → SleeperLists → Type 0
SleepOn old new = (id : Id) (n : ℕ) → is_under old id n ≡ true → is_under new id n ≡ true

-- those who slept still sleep, and a message that waited and waits no more is at rest
pub record LaysDown (kept : Kept) (old_waiting new_waiting : List ℕ) (old new : SleeperLists) : Type 0 where
  pub sleepers : SleepOn old new
  pub rests : (n : ℕ) (l : Line) → slice_get kept.lines n ≡ Some l → has old_waiting n ≡ true → has new_waiting n ≡ false → IsAtRest kept new n l
