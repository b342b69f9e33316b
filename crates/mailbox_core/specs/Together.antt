-- Batches that come behind those that wait of a store, told from one call to the next, and what stands
-- once all of them are added.
use Rattle.std.specs.Prelude.{◌≡◌, true, false, List, [], ◌∷◌, ◌++◌, Some, Result, Ok, Err}
use Rattle.outside.specs.Files.{Two, File}
use Rattle.outside.specs.Outside.{DiskRun, Outside}
use Rattle.sync_rules.specs.declared.entries.Entry.{Entry}
use Rattle.sync_rules.specs.Clients.{Meaning}
use Rattle.sync_rules.specs.Facts.{after_batches}
use Rattle.sync_store.specs.Store.{IsStore, StoreValue, written_in}
use Rattle.sync_store.specs.Fitting.{FitsFiles}
use Rattle.sync_store.specs.Gathering.{AddsBehind, GathersBehind}
use Rattle.sync_store.specs.Groups.{HasGathered}
use Rattle.sync_store.specs.Moments.{groups_for}
use Rattle.sync_store.specs.Rooms.{AreRoomy, StoreComesTo}
use Rattle.sync_store.specs.declared.fault.StoreFault.{StoreFault}

-- Behind those that wait of a store each of these batches found its room: whatever it was before
-- those, and whatever journal its disk fitted then.
abbrev pub FindRoom : Meaning → StoreValue → Outside → List (List Entry) → Type 0
FindRoom clients s o more =
    (before : StoreValue) → IsStore before → (waits : List (List Entry))
    → HasGathered clients before s waits → (two : Two File) → o.files ≡ Some two
    → (j : List (List Entry)) → FitsFiles clients before j two
    → AreRoomy (written_in s) s.limit (j ++ waits) more

-- A store of which batches may wait came by these to this one: each found its room behind those, and
-- was added or waits. Where it is closed, since a call of the disk failed, all were to be added.
pub record ComesBehind (clients : Meaning) (s s' : StoreValue) (o o' : Outside)
    (more : List (List Entry)) : Type 0 where
  pub run : DiskRun o o'
  pub facts : s'.closed ≡ false → s'.state.facts ≡ after_batches s.state.facts more
  pub format : s'.format ≡ s.format
  pub limit : s'.limit ≡ s.limit
  pub roomy : FindRoom clients s o more
  pub waits : s'.closed ≡ false → GathersBehind clients s s' o o' more
  pub broken : s'.closed ≡ true → AddsBehind clients s s' o o' more

-- the batches of a call that gathers one, by its answer
abbrev pub joined_by : List Entry → Result (Unit {0}) StoreFault → List (List Entry)
joined_by batch (Ok _) = batch ∷ []
joined_by batch (Err _) = []

-- A store came by these batches to this one, as `StoreComesTo` has it, and they were added in as few
-- groups as their frames take.
pub record ComesInGroups (clients : Meaning) (s s' : StoreValue) (o o' : Outside)
    (more : List (List Entry)) : Type 0 where
  pub comes : StoreComesTo clients s s' o o' more
  pub counted : comes.runs.groups ≡ groups_for (written_in s) 0 0 more
