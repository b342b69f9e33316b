-- How far a store has come with batches that it gathers, and adds to its journal in groups.
use Rattle.std.specs.Prelude.{◌≡◌, ◌⊎◌, ◌+◌, ◌<◌, ◌≤◌, true, false, List, [], ◌∷◌, ◌++◌, length}
use Rattle.std.specs.Prelude.{Result, Ok, Err}
use Rattle.std.specs.List.{AllByRecursion}
use Rattle.frame_journal.specs.Group.{group_len}
use Rattle.outside.specs.Outside.{Outside}
use Rattle.sync_rules.specs.declared.entries.Entry.{Entry}
use Rattle.sync_rules.specs.Clients.{Meaning}
use Rattle.sync_rules.specs.Facts.{after_batches}
use Rattle.sync_rules.specs.Left.{left_of}
use Rattle.sync_rules.specs.Legal.{AllSettling}
use Rattle.sync_rules.specs.Steps.{IsSettled}
use Rattle.sync_store.specs.Store.{IsStore, StoreValue, written_in}
use Rattle.sync_store.specs.Waiting.{frames_in}
use Rattle.sync_store.specs.Commits.{GainsBatch, needed}
use Rattle.sync_store.specs.Groups.{HasGathered}
use Rattle.sync_store.specs.Moments.{groups_for}
use Rattle.sync_store.specs.Runs.{RunsBy}
use Rattle.sync_store.specs.Settling.{AreFilled, IsFullBatch, SettlesSo, settling_len}
use Rattle.sync_store.specs.declared.fault.StoreFault.{StoreFault}
use Rattle.sync_store.specs.declared.fault.StoreFault.TheVariants as fault

-- but for what waits, and whether it is closed, a store is as before
pub record KeepsJournal (old new : StoreValue) : Type 0 where
  pub state : new.state ≡ old.state
  pub file : new.file ≡ old.file
  pub format : new.format ≡ old.format
  pub generation : new.generation ≡ old.generation
  pub end : new.end ≡ old.end
  pub limit : new.limit ≡ old.limit

-- ---- batches that were added, and batches that wait

-- Of these batches, which a store has beside those that it had before, the first were added to the
-- journal, and the rest wait.
pub record IsUnderway (clients : Meaning) (before s : StoreValue) (o o' : Outside)
    (all : List (List Entry)) : Type 0 where
  pub mid : StoreValue
  pub kept : IsStore mid
  pub done : List (List Entry)
  pub rest : List (List Entry)
  pub parts : done ++ rest ≡ all
  pub runs : RunsBy clients before mid o o' done
  pub gathered : HasGathered clients mid s rest
  -- as many groups were added as the frames take
  pub counted : (more : List (List Entry)) → groups_for (written_in before) 0 0 (all ++ more)
      ≡ runs.groups
      + groups_for (written_in before) (group_len s.waiting) (frames_in s.waiting) more

-- all of these batches were added, in as few groups as the frames take
pub record IsAdded (clients : Meaning) (before s : StoreValue) (o o' : Outside)
    (all : List (List Entry)) : Type 0 where
  pub runs : RunsBy clients before s o o' all
  pub counted : runs.groups ≡ groups_for (written_in before) 0 0 all

-- what making room for one batch more comes to, behind batches that wait
abbrev pub MakesRoom : Meaning → StoreValue → StoreValue → List (List Entry)
    → Result (Unit {0}) StoreFault → Outside → Outside → Type 0
MakesRoom clients before s waits (Ok u) o o' = IsUnderway clients before s o o' waits
MakesRoom clients before s waits (Err fault.DiskFault) o o' =
    (s.closed ≡ true) × IsAdded clients before s o o' waits
MakesRoom clients before s waits (Err _) o o' = ⊥

-- ---- batches that come behind those that wait

-- Of a store of which batches may wait: these came behind those. Whatever it was before those that
-- wait, it came from there by those and these, and each of them was added or waits.
pub record GathersBehind (clients : Meaning) (s s' : StoreValue) (o o' : Outside)
    (more : List (List Entry)) : Type 0 where
  pub on : (before : StoreValue) → IsStore before → (waits : List (List Entry))
      → HasGathered clients before s waits → IsUnderway clients before s' o o' (waits ++ more)

-- the same where all of them were added, or were to be where the disk failed
pub record AddsBehind (clients : Meaning) (s s' : StoreValue) (o o' : Outside)
    (more : List (List Entry)) : Type 0 where
  pub on : (before : StoreValue) → IsStore before → (waits : List (List Entry))
      → HasGathered clients before s waits → IsAdded clients before s' o o' (waits ++ more)

-- but for what waits and what memory it took, and whether it is closed, a store is as before
pub record KeepsBatches (old new : StoreValue) : Type 0 where
  pub facts : new.state.facts ≡ old.state.facts
  pub answers : new.state.answers ≡ old.state.answers
  pub file : new.file ≡ old.file
  pub format : new.format ≡ old.format
  pub generation : new.generation ≡ old.generation
  pub end : new.end ≡ old.end
  pub limit : new.limit ≡ old.limit

-- Full comes exactly where the journal would pass the limit. After it and after Memory all is as
-- before, but that those that waited may have been added; after DiskFault the store is closed.
abbrev pub JoinsBehind : Meaning → StoreValue → StoreValue → List Entry
    → Result (Unit {0}) StoreFault → Outside → Outside → Type 0
JoinsBehind clients s s' batch (Ok _) o o' =
    (needed s batch ≤ s.limit) × GainsBatch s s' batch
    × GathersBehind clients s s' o o' (batch ∷ [])
JoinsBehind clients s s' batch (Err fault.Full) o o' =
    (s.limit < needed s batch) × KeepsBatches s s' × (s'.closed ≡ false)
    × GathersBehind clients s s' o o' []
JoinsBehind clients s s' batch (Err fault.Memory) o o' =
    (needed s batch ≤ s.limit) × KeepsBatches s s' × (s'.closed ≡ false)
    × GathersBehind clients s s' o o' []
JoinsBehind clients s s' batch (Err fault.DiskFault) o o' =
    KeepsBatches s s' × (s'.closed ≡ true) × AddsBehind clients s s' o o' []
JoinsBehind clients s s' batch (Err fault.Closed) o o' = ⊥

-- ---- one settling batch

-- no batch, or one that is full or the last
abbrev pub IsOneBatch : Meaning → StoreValue → List (List Entry) → Type 0
IsOneBatch clients new more = (AllByRecursion IsFullBatch more) ⊎ IsSettled clients new.state.facts

-- after Ok a step was made, and Memory alone may come beside it
abbrev pub GathersSo : Meaning → StoreValue → StoreValue → List (List Entry)
    → Result (Unit {0}) StoreFault → Type 0
GathersSo clients old new more (Ok _) =
    (left_of new.state.facts < left_of old.state.facts) × IsOneBatch clients new more
GathersSo clients old new more (Err fault.Memory) = Unit {0}
GathersSo clients old new more (Err _) = ⊥

-- at most one settling batch was gathered
pub record GathersSteps (clients : Meaning) (old new : StoreValue)
    (result : Result (Unit {0}) StoreFault) : Type 0 where
  pub more : List (List Entry)
  pub few : length more ≤ 1
  pub settling : AllSettling clients old.state.facts more
  pub facts : new.state.facts ≡ after_batches old.state.facts more
  pub format : new.format ≡ old.format
  pub end : new.end ≡ old.end + settling_len (written_in old) more
  pub gathers : (before : StoreValue) → (waits : List (List Entry))
      → HasGathered clients before old waits → HasGathered clients before new (waits ++ more)
  pub closed : new.closed ≡ false
  pub answer : GathersSo clients old new more result

-- ---- settling behind batches that wait

-- settling batches, and what the store is behind them
pub record StepsOn (clients : Meaning) (old new : StoreValue)
    (more : List (List Entry)) : Type 0 where
  pub settling : AllSettling clients old.state.facts more
  pub facts : new.state.facts ≡ after_batches old.state.facts more
  pub filled : AreFilled more
  pub end : new.closed ≡ false → new.end ≡ old.end + settling_len (written_in old) more

-- what gathering all steps comes to, by the answer
abbrev pub SettlesSoFar : Meaning → StoreValue → StoreValue → List (List Entry)
    → Result (Unit {0}) StoreFault → Outside → Outside → Type 0
SettlesSoFar clients old new more (Ok _) o o' =
    (new.closed ≡ false) × GathersBehind clients old new o o' more
    × IsSettled clients new.state.facts
SettlesSoFar clients old new more (Err fault.Memory) o o' =
    (new.closed ≡ false) × GathersBehind clients old new o o' more
SettlesSoFar clients old new more (Err fault.DiskFault) o o' =
    (new.closed ≡ true) × AddsBehind clients old new o o' more
SettlesSoFar clients old new more (Err _) o o' = ⊥

-- settling batches were gathered behind those that waited
pub record SettlesBehind (clients : Meaning) (old new : StoreValue)
    (result : Result (Unit {0}) StoreFault) (o o' : Outside) : Type 0 where
  pub more : List (List Entry)
  pub steps : StepsOn clients old new more
  pub answer : SettlesSoFar clients old new more result o o'

-- settling batches were gathered behind those that waited, and all of them were added
pub record SettlesOut (clients : Meaning) (before old new : StoreValue) (waits : List (List Entry))
    (result : Result (Unit {0}) StoreFault) (o o' : Outside) : Type 0 where
  pub more : List (List Entry)
  pub steps : StepsOn clients old new more
  pub added : IsAdded clients before new o o' (waits ++ more)
  pub answer : SettlesSo clients new result
