-- What the running of an errand comes to, from a loaded store.
use Rattle.std.specs.Prelude.{◌≡◌, ℕ, ◌<◌, false, List, Result, Ok, Err}
use Rattle.std.specs.Io.KnownBytes.{Appends}
use Rattle.outside.specs.Faults.{CountRose}
use Rattle.outside.specs.Outside.{Outside}
use Rattle.outside.specs.Streams.{Stream, IsIdle, GetsFront}
use Rattle.sync_rules.specs.declared.entries.Entry.{Entry}
use Rattle.sync_rules.specs.Clients.{Meaning}
use Rattle.sync_rules.specs.Facts.{Facts}
use Rattle.sync_rules.specs.Steps.{IsSettled}
use Rattle.sync_store.specs.Commits.{needed}
use Rattle.sync_store.specs.Store.{StoreValue}
use Rattle.sync_words.specs.declared.outcome.Outcome.{Outcome}
use Rattle.sync_words.specs.declared.outcome.Outcome.TheVariants as outcome
use Rattle.sync_store.specs.Rooms.{StoreComesTo}
use Rattle.store_commands.specs.Commit.{ExtendsBy}
use Rattle.store_commands.specs.Errands.{Errand, running}
use Rattle.store_commands.specs.Works.{RunsWork}

-- ---- an errand on a settled store

-- for the batch that comes next there was no room in this store
pub record LacksRoom (errand : Errand) (f : Facts) (s : StoreValue)
    (more : List (List Entry)) : Type 0 where
  pub next : List Entry
  pub follows : errand.next f more next
  pub over : s.limit < needed s next

-- what ended with a value, or with an outcome before, but for the value
abbrev pub ended_as : {V : Type 0} → Result V Outcome → Result (Unit {0}) Outcome
ended_as (Ok v) = Ok tt
ended_as (Err came) = Err came

-- by the answer
abbrev pub DoesSo : Meaning → Errand → Facts → StoreValue → List (List Entry)
    → Result (Unit {0}) Outcome → Type 0
DoesSo clients errand f s more (Ok _) =
    (s.closed ≡ false) × IsSettled clients s.state.facts × errand.whole f more
DoesSo clients errand f s more (Err outcome.Full) = (s.closed ≡ false) × LacksRoom errand f s more
DoesSo clients errand f s more (Err outcome.Memory) = Unit {0}
DoesSo clients errand f s more (Err outcome.DiskFault) = Unit {0}
DoesSo clients errand f s more (Err _) = ⊥

-- a settled store came by some of the errand to this one, as far as the answer says
pub record DoesErrand (clients : Meaning) (errand : Errand) (s s' : StoreValue) (o o' : Outside)
    (result : Result (Unit {0}) Outcome) : Type 0 where
  pub more : List (List Entry)
  pub comes : StoreComesTo clients s s' o o' more
  pub some : errand.some s.state.facts more
  pub answer : DoesSo clients errand s.state.facts s' more result
  pub by : ExtendsBy o o' result

-- ---- the printing

-- a text is printed, and then it comes to this outcome; memory may be wanting for it
abbrev pub PrintsOut : Outcome → List ℕ → (out out' : Stream) → Outcome → Type 0
PrintsOut comes text out out' outcome.Done =
    (comes ≡ outcome.Done) × Appends out.bytes out'.bytes text
PrintsOut comes text out out' (outcome.Inside place) =
    (comes ≡ outcome.Inside place) × Appends out.bytes out'.bytes text
PrintsOut comes text out out' (outcome.Bad place why) =
    (comes ≡ outcome.Bad place why) × Appends out.bytes out'.bytes text
PrintsOut comes text out out' (outcome.NoVersion place) =
    (comes ≡ outcome.NoVersion place) × Appends out.bytes out'.bytes text
PrintsOut comes text out out' outcome.WriteFault =
    CountRose out.faults out'.faults × GetsFront out out' text
PrintsOut comes text out out' outcome.Memory = IsIdle out out'
PrintsOut comes text out out' _ = ⊥

-- a text did not go out, or a front of it
abbrev pub FailsToPrint : List ℕ → (out out' : Stream) → Outcome → Type 0
FailsToPrint text out out' outcome.WriteFault =
    CountRose out.faults out'.faults × GetsFront out out' text
FailsToPrint text out out' outcome.Memory = IsIdle out out'
FailsToPrint text out out' _ = ⊥

-- by the answer of a call that prints
abbrev pub PrintedSo : List ℕ → (out out' : Stream) → Result (Unit {0}) Outcome → Type 0
PrintedSo text out out' (Ok u) = Appends out.bytes out'.bytes text
PrintedSo text out out' (Err came) = FailsToPrint text out out' came

-- ---- from a loaded store

-- a store was migrated and settled, and the errand was run
abbrev pub RunsErrand : Meaning → Errand → StoreValue → (old new : Outside) → (out out' : Stream)
    → Outcome → Type 0
RunsErrand clients errand = RunsWork clients errand.comes (running clients errand)
