-- A journal that goes on: what its facts keep, what its batches add to the output of a session, which steps there are,
-- and what settling, outputs and records leave as they were.
use Rattle.std.specs.Prelude.{◌≡◌, ℕ, ◌+◌, ◌≤◌, Bool, true, false, cond, nat_eq, List, [], ◌∷◌, ◌++◌, Some}
use Rattle.std.specs.FinSet as fin_set
use Rattle.sync_ids.specs.declared.records.Record.{Record}
use Rattle.sync_rules.specs.declared.entries.Entry.{Entry}
use Rattle.sync_rules.specs.declared.entries.Entry.TheVariants as entry
use Rattle.sync_rules.specs.declared.entries.Session.{Session}
use Rattle.sync_rules.specs.declared.states.Start.{Start}
use Rattle.sync_rules.specs.declared.states.Start.TheVariants as start
use Rattle.sync_rules.specs.Facts.{Facts, Held, Id, Known, after, after_all, group_at, held_at, is_held, session_at, takes_of}
use Rattle.sync_rules.specs.Output.{first_records, out_records}

-- ---- what goes on

-- one list is the front of another
pub record ContinuesList {A : Type 0} (front whole : List A) : Type 0 where
  pub more : List A
  pub goes_on : whole ≡ front ++ more

-- the facts `later` go on from the facts `f`: lists go on, counts never fall, and what is known stays as it is
pub record ContinuesFacts (f later : Facts) : Type 0 where
  pub contacts : f.contacts ≤ later.contacts
  pub begun : f.begun ≤ later.begun
  pub groups : ContinuesList f.groups later.groups
  pub sessions : ContinuesList f.sessions later.sessions
  pub held : ContinuesList f.held later.held
  pub delivered : ContinuesList f.delivered later.delivered
  pub same_group : (id : Id) (g : Known) → group_at f.groups id ≡ Some g → group_at later.groups id ≡ Some g
  pub same_session : (n : ℕ) (s : Session) → session_at f.sessions n ≡ Some s → session_at later.sessions n ≡ Some s
  pub same_held : (id : Id) (h : Held) → held_at f.held id ≡ Some h → held_at later.held id ≡ Some h
  pub judged : (id : Id) → fin_set.contains f.judged id ≡ true → fin_set.contains later.judged id ≡ true
  pub invalid : (id : Id) → fin_set.contains f.invalid id ≡ true → fin_set.contains later.invalid id ≡ true
  pub takes : (n : ℕ) → takes_of f.takes n ≤ takes_of later.takes n

-- ---- what goes out

-- the records that one entry adds to a session's output, by the facts before it: those that the session begins with, or
-- that of an output of the session
abbrev pub output_by : Facts → ℕ → Entry → List Record
output_by f session (entry.Session s) = cond (nat_eq s.number session) (first_records s) []
output_by f session (entry.Out s now what) = cond (nat_eq s session) (out_records f.held what) []
output_by f session _ = []

-- the records that entries add, one after the other
abbrev pub output_in : Facts → ℕ → List Entry → List Record
output_in f session [] = []
output_in f session (e ∷ es) = output_by f session e ++ output_in (after f e) session es

-- the records that batches add
abbrev pub output_of : Facts → ℕ → List (List Entry) → List Record
output_of f session [] = []
output_of f session (b ∷ bs) = output_in f session b ++ output_of (after_all f b) session bs

-- an entry that begins no session and is no output
abbrev pub is_silent : Entry → Bool
is_silent (entry.Session s) = false
is_silent (entry.Out s now what) = false
is_silent _ = true

-- ---- steps

-- a next step is one of three kinds, of a message that is held
abbrev pub IsStepOf : Facts → Entry → Type 0
IsStepOf f (entry.Judged id) = is_held f.held id ≡ true
IsStepOf f (entry.Deliver id) = is_held f.held id ≡ true
IsStepOf f (entry.Invalid id) = is_held f.held id ≡ true
IsStepOf f _ = ⊥

-- all that steps read is the same
pub record HasSameSteps (f later : Facts) : Type 0 where
  pub groups : later.groups ≡ f.groups
  pub held : later.held ≡ f.held
  pub judged : later.judged ≡ f.judged
  pub invalid : later.invalid ≡ f.invalid
  pub delivered : later.delivered ≡ f.delivered

-- an entry that leaves all that steps read
abbrev pub leaves_steps : Entry → Bool
leaves_steps (entry.Group def) = false
leaves_steps (entry.Author m) = false
leaves_steps (entry.Arrive s m) = false
leaves_steps (entry.Judged id) = false
leaves_steps (entry.Deliver id) = false
leaves_steps (entry.Invalid id) = false
leaves_steps (entry.Kept from m) = false
leaves_steps _ = true

-- the journal has an entry
abbrev pub IsBegun : Start → Type 0
IsBegun start.Empty = ⊥
IsBegun start.Opening = Unit {0}
IsBegun start.Going = Unit {0}

-- all but what settling changes is the same
pub record OnlySettles (f later : Facts) : Type 0 where
  pub start : IsBegun f.start → later.start ≡ f.start
  pub contacts : later.contacts ≡ f.contacts
  pub groups : later.groups ≡ f.groups
  pub levels : later.levels ≡ f.levels
  pub begun : later.begun ≡ f.begun
  pub sessions : later.sessions ≡ f.sessions
  pub takes : later.takes ≡ f.takes
  pub held : later.held ≡ f.held
  pub rows : later.rows ≡ f.rows
  pub wanted : later.wanted ≡ f.wanted

-- one more record was taken on a session, none on another, and no session began
pub record TakesOne (f later : Facts) (session : ℕ) : Type 0 where
  pub contacts : later.contacts ≡ f.contacts
  pub groups : later.groups ≡ f.groups
  pub levels : later.levels ≡ f.levels
  pub begun : later.begun ≡ f.begun
  pub sessions : later.sessions ≡ f.sessions
  pub takes : (n : ℕ) → takes_of later.takes n ≡ cond (nat_eq n session) (takes_of f.takes n + 1) (takes_of f.takes n)
  pub judged : later.judged ≡ f.judged
  pub invalid : later.invalid ≡ f.invalid
  pub delivered : later.delivered ≡ f.delivered
