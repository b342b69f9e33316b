-- Batches that a settled store gathers, one after the other, and adds to its journal together.
use Rattle.std.specs.Prelude.{◌≡◌, ◌<◌, ℕ, true, false, List, ◌∷◌, ◌++◌, Result, Ok, Err}
use Rattle.outside.specs.Outside.{Outside}
use Rattle.outside.specs.Runs.{IsFront}
use Rattle.sync_rules.specs.declared.entries.Entry.{Entry}
use Rattle.sync_rules.specs.Clients.{Meaning}
use Rattle.sync_rules.specs.Steps.{IsSettled}
use Rattle.sync_store.specs.Commits.{needed}
use Rattle.sync_store.specs.Groups.{IsGathering}
use Rattle.sync_store.specs.Ready.{IsReady}
use Rattle.sync_store.specs.Store.{IsStore, StoreValue}
use Rattle.mailbox_core.specs.Together.{ComesBehind, ComesInGroups}
use Rattle.sync_words.specs.declared.outcome.Outcome.{Outcome}
use Rattle.sync_words.specs.declared.outcome.Outcome.TheVariants as outcome

-- there was no room for the first batch of those that were not added
pub record LacksRoomForTarget (s : StoreValue) (all front : List (List Entry)) : Type 0 where
  pub next : List Entry
  pub rest : List (List Entry)
  pub parts : all ≡ front ++ next ∷ rest
  pub over : s.limit < needed s next

-- which batches were added, by the answer; the store is closed after DiskFault, and only then
abbrev pub AddsSo : StoreValue → (all front : List (List Entry)) → Result (Unit {0}) Outcome
    → Type 0
AddsSo s all front (Ok _) = (s.closed ≡ false) × (front ≡ all)
AddsSo s all front (Err outcome.Full) = (s.closed ≡ false) × LacksRoomForTarget s all front
AddsSo s all front (Err outcome.Memory) = (s.closed ≡ false) × IsFront front all
AddsSo s all front (Err outcome.DiskFault) = (s.closed ≡ true) × IsFront front all
AddsSo s all front (Err _) = ⊥

-- a store came by a front of these batches to this one, behind those that wait of it, as far as the
-- answer says
pub record GathersFront (clients : Meaning) (s s' : StoreValue) (o o' : Outside)
    (all : List (List Entry)) (result : Result (Unit {0}) Outcome) : Type 0 where
  pub front : List (List Entry)
  pub comes : ComesBehind clients s s' o o' front
  pub answer : AddsSo s' all front result

-- a store came by a front of these batches to this one, as far as the answer says: there was room for
-- each, and they were added in as few groups as their frames take
pub record AddsFront (clients : Meaning) (s s' : StoreValue) (o o' : Outside)
    (all : List (List Entry)) (result : Result (Unit {0}) Outcome) : Type 0 where
  pub front : List (List Entry)
  pub adds : ComesInGroups clients s s' o o' front
  pub answer : AddsSo s' all front result

-- a settled store that knows a contact
pub record KnowsContact (clients : Meaning) (s : StoreValue) (o : Outside)
    (contact : ℕ) : Type 0 where
  pub ready : IsReady clients s o.files
  pub is_store : IsStore s
  pub settled : IsSettled clients s.state.facts
  pub known : contact < s.state.facts.contacts

-- what stands of it behind batches that leave a settled journal settled, by the answer: all of it,
-- but where the disk failed
abbrev pub StaysKnown : Meaning → StoreValue → Outside → ℕ → Result (Unit {0}) Outcome → Type 0
StaysKnown clients s o contact (Err outcome.DiskFault) = Unit {0}
StaysKnown clients s o contact _ = KnowsContact clients s o contact

-- a settled store that gathers and knows a contact
pub record GathersFor (clients : Meaning) (s : StoreValue) (o : Outside)
    (contact : ℕ) : Type 0 where
  pub gathering : IsGathering clients s o.files
  pub settled : IsSettled clients s.state.facts
  pub known : contact < s.state.facts.contacts

-- what stands of it likewise
abbrev pub StaysGathering : Meaning → StoreValue → Outside → ℕ → Result (Unit {0}) Outcome → Type 0
StaysGathering clients s o contact (Err outcome.DiskFault) = Unit {0}
StaysGathering clients s o contact _ = GathersFor clients s o contact
