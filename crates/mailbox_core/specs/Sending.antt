-- Outputs that are committed one after the other, and what the writing of a file answers.
use Rattle.std.specs.Prelude.{◌≡◌, ◌⊎◌, ℕ, ◌<◌, ◌≤◌, true, false, List, [], ◌∷◌, ◌++◌, length, Some}
use Rattle.std.specs.Prelude.{None, Result, Ok, Err}
use Rattle.outside.specs.Outside.{Outside}
use Rattle.record_grammar.specs.Spelling.{spelled}
use Rattle.sync_rules.specs.declared.entries.Entry.{Entry}
use Rattle.sync_rules.specs.declared.entries.Entry.TheVariants as entry
use Rattle.sync_rules.specs.declared.entries.Out.{Out}
use Rattle.sync_rules.specs.declared.entries.Session.{Session}
use Rattle.sync_rules.specs.Clients.{Meaning}
use Rattle.sync_rules.specs.Facts.{Facts, after, session_at}
use Rattle.sync_rules.specs.Growth.{output_of}
use Rattle.sync_rules.specs.Legal.{IsDue}
use Rattle.sync_rules.specs.Sessions.{due}
use Rattle.sync_rules.specs.Steps.{IsSettled}
use Rattle.sync_rules.specs.Hearing.{batch_session}
use Rattle.sync_course.specs.LinkTurns.{out_batch}
use Rattle.sync_store.specs.declared.fault.StoreFault.{StoreFault}
use Rattle.sync_store.specs.declared.fault.StoreFault.TheVariants as fault
use Rattle.sync_store.specs.Commits.{needed}
use Rattle.sync_store.specs.Store.{StoreValue}
use Rattle.mailbox_core.specs.Together.{ComesInGroups}
use Rattle.mailbox_core.specs.Taking.{BeginsThen, first_batch}

-- ---- outputs

-- the batches of outputs of a session, at a time
abbrev pub out_batches : ℕ → ℕ → List Out → List (List Entry)
out_batches session now [] = []
out_batches session now (what ∷ outs) = out_batch session now what ∷ out_batches session now outs

-- each of these outputs is due on the session at this time, by the facts behind those before it
abbrev pub AreDue : Meaning → Facts → ℕ → ℕ → List Out → Type 0
AreDue clients f session now [] = Unit {0}
AreDue clients f session now (what ∷ outs) =
    IsDue clients f (session_at f.sessions session) now what
    × AreDue clients (after f (entry.Out session now what))
    session now outs

-- nothing is due on a session, which there is
pub record IsSessionQuiet (clients : Meaning) (f : Facts) (session now : ℕ) : Type 0 where
  pub begun : Session
  pub found : session_at f.sessions session ≡ Some begun
  pub nothing : due clients f begun now ≡ None

-- these batches are outputs that are due at this time, at most so many
pub record SendsSome (clients : Meaning) (f : Facts) (session now most : ℕ)
    (more : List (List Entry)) : Type 0 where
  pub outs : List Out
  pub is : more ≡ out_batches session now outs
  pub due : AreDue clients f session now outs
  pub few : length outs ≤ most

-- so many of them were made as was asked for, or nothing is due by the facts behind them
pub record SendsAll (clients : Meaning) (f later : Facts) (session now most made : ℕ)
    (more : List (List Entry))
    : Type 0 where
  pub sends : SendsSome clients f session now most more
  pub counted : made ≡ length sends.outs
  pub ends : (made ≡ most) ⊎ IsSessionQuiet clients later session now

-- fewer were made, and for the next one, which is due, there is no room in this store
pub record SendsUntilFull (clients : Meaning) (f : Facts) (s : StoreValue) (session now most : ℕ)
    (more : List (List Entry)) : Type 0 where
  pub sends : SendsSome clients f session now most more
  pub fewer : length sends.outs < most
  pub next : Out
  pub due : IsDue clients s.state.facts (session_at s.state.facts.sessions session) now next
  pub over : s.limit < needed s (out_batch session now next)

-- ---- a file

-- nothing is done, or the session begins and some outputs follow
abbrev pub WritesSome : Meaning → ℕ → ℕ → ℕ → ℕ → Facts → List (List Entry) → Type 0
WritesSome clients contact latency now count f more =
    (more ≡ []) ⊎ BeginsThen f (batch_session f.begun contact latency) more
    (λ g rest. SendsSome clients g f.begun now count rest)

-- there is no room for the session, or it begins, and there is none for the output behind those
-- that were made
abbrev pub WritesUntilFull : Meaning → ℕ → ℕ → ℕ → ℕ → Facts → StoreValue → List (List Entry)
    → Type 0
WritesUntilFull clients contact latency now count f s more =
    ((more ≡ []) × (s.limit < needed s (first_batch (batch_session f.begun contact latency))))
    ⊎ BeginsThen f (batch_session f.begun contact latency) more
    (λ g rest. SendsUntilFull clients g s f.begun now count rest)

-- By the answer: the batches behind a journal of facts `f`, the store then, and the bytes. After a
-- fault these are as before; else all that the session sends is appended. The store is not closed
-- but after DiskFault; then the batches of the last group may stand in the files or not.
abbrev pub WritesSo : Meaning → ℕ → ℕ → ℕ → ℕ → Facts → StoreValue → List (List Entry) → List ℕ
    → List ℕ
    → Result ℕ StoreFault → Type 0
WritesSo clients contact latency now count f s more to to' (Ok made) =
    (s.closed ≡ false) × IsSettled clients s.state.facts
    × BeginsThen f (batch_session f.begun contact latency) more
    (λ g rest. SendsAll clients g s.state.facts f.begun now count made rest)
    × (to' ≡ to ++ spelled (output_of f f.begun more))
WritesSo clients contact latency now count f s more to to' (Err fault.Closed) = ⊥
WritesSo clients contact latency now count f s more to to' (Err fault.Full) =
    (s.closed ≡ false) × IsSettled clients s.state.facts
    × WritesUntilFull clients contact latency now count f s more ×
    (to' ≡ to)
WritesSo clients contact latency now count f s more to to' (Err fault.Memory) =
    (s.closed ≡ false) × WritesSome clients contact latency now count f more × (to' ≡ to)
WritesSo clients contact latency now count f s more to to' (Err fault.DiskFault) =
    (s.closed ≡ true) × WritesSome clients contact latency now count f more × (to' ≡ to)

-- a file was written from a store that is not closed: its batches were added in as few groups as
-- their frames take
pub record HasWrittenBox (clients : Meaning) (contact latency now count : ℕ) (s s' : StoreValue)
    (to to' : List ℕ)
    (result : Result ℕ StoreFault) (o o' : Outside) : Type 0 where
  pub more : List (List Entry)
  pub adds : ComesInGroups clients s s' o o' more
  pub answer : WritesSo clients contact latency now count s.state.facts s' more to to' result
