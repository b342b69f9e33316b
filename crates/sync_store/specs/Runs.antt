-- A run of a store's calls, told by the one list of batches that it committed.
use Rattle.std.specs.Prelude.{◌≡◌, ◌≢◌, ℕ, ◌<◌, ◌≤◌, true, false, List, [], ◌∷◌, ◌++◌, length, Some}
use Rattle.std.specs.Prelude.{Result, Ok, Err}
use Rattle.outside.specs.Files.{Two, File}
use Rattle.outside.specs.Outside.{Outside, DiskRun}
use Rattle.sync_rules.specs.declared.entries.Entry.{Entry}
use Rattle.sync_rules.specs.Clients.{Meaning}
use Rattle.sync_rules.specs.Facts.{Facts, after_all, after_batches}
use Rattle.sync_rules.specs.Legal.{AllSettling, GoesOn}
use Rattle.sync_rules.specs.Steps.{IsSettled}
use Rattle.sync_store.specs.Store.{StoreValue, written_in}
use Rattle.sync_store.specs.Commits.{KeepsStore, needed}
use Rattle.sync_store.specs.Fitting.{FitsFiles}
use Rattle.sync_store.specs.Appending.{CallsFor}
use Rattle.sync_store.specs.Moments.{IsBetween, LeadsTo, groups_for}
use Rattle.sync_store.specs.Settling.{AreFilled}
use Rattle.sync_store.specs.declared.fault.StoreFault.{StoreFault}
use Rattle.sync_store.specs.declared.fault.StoreFault.TheVariants as fault

-- whatever journal the disk fits: at each moment the files stand for it with a front of these
-- batches, and in the end, unless the store is closed, the disk fits the store with it and all of
-- them
abbrev pub LeadsBy : Meaning → StoreValue → StoreValue → Outside → Outside → List (List Entry)
    → Type 0
LeadsBy clients old new o o' more =
    (two : Two File) → o.files ≡ Some two → (j : List (List Entry)) → FitsFiles clients old j two
    → LeadsTo clients (IsBetween j more) (λ whole. whole ≡ j ++ more) new o o'

-- A store came by these batches to this one: each of them may follow the journal with those before
-- it, and unless the store is closed it has them all. No link changed, files that were told still
-- are, no count of failed calls fell, and each group of batches took four calls of the disk.
pub record RunsBy (clients : Meaning) (old new : StoreValue) (o o' : Outside)
    (more : List (List Entry)) : Type 0 where
  pub goes_on : GoesOn clients old.state.facts more
  pub facts : new.closed ≡ false → new.state.facts ≡ after_batches old.state.facts more
  pub file : new.file ≡ old.file
  pub format : new.format ≡ old.format
  pub generation : new.generation ≡ old.generation
  pub limit : new.limit ≡ old.limit
  pub run : DiskRun o o'
  pub leads : LeadsBy clients old new o o' more
  pub groups : ℕ
  pub few : groups ≤ length more
  pub calls : CallsFor groups old new o o'

-- the batches of a commit, by its answer: where the disk failed the batch may stand in the files
abbrev pub committed_by : List Entry → Result (Unit {0}) StoreFault → List (List Entry)
committed_by batch (Ok _) = batch ∷ []
committed_by batch (Err fault.DiskFault) = batch ∷ []
committed_by batch (Err _) = []

-- ---- a batch, and settling behind it

-- behind a journal of these facts: nothing, or the batch and settling behind it
abbrev pub AddsBatch : Meaning → Facts → List Entry → List (List Entry) → Type 0
AddsBatch clients f batch [] = Unit {0}
AddsBatch clients f batch (b ∷ rest) =
    (b ≡ batch) × AllSettling clients (after_all f batch) rest × AreFilled rest

-- Full comes exactly where the journal would pass the limit, and then all is as before. After Ok
-- the batch stands and the journal is settled; after Memory the store is not closed, and after
-- DiskFault it is.
abbrev pub ExtendsSo : Meaning → StoreValue → StoreValue → List Entry → List (List Entry)
    → Result (Unit {0}) StoreFault → Type 0
ExtendsSo clients old new batch more (Ok _) =
    (new.closed ≡ false) × (needed old batch ≤ old.limit) × (more ≢ [])
    × IsSettled clients new.state.facts
ExtendsSo clients old new batch more (Err fault.Closed) = ⊥
ExtendsSo clients old new batch more (Err fault.Full) =
    (old.limit < needed old batch) × (more ≡ []) × KeepsStore old new
ExtendsSo clients old new batch more (Err fault.Memory) =
    (new.closed ≡ false) × (needed old batch ≤ old.limit)
ExtendsSo clients old new batch more (Err fault.DiskFault) =
    (new.closed ≡ true) × (needed old batch ≤ old.limit)

-- A store that is not closed was extended by a batch and settled, as far as the answer says: by as few
-- groups as the frames take.
pub record HasExtended (clients : Meaning) (old new : StoreValue) (batch : List Entry)
    (result : Result (Unit {0}) StoreFault)
    (o o' : Outside) : Type 0 where
  pub more : List (List Entry)
  pub runs : RunsBy clients old new o o' more
  pub adds : AddsBatch clients old.state.facts batch more
  pub counted : runs.groups ≡ groups_for (written_in old) 0 0 more
  pub answer : ExtendsSo clients old new batch more result
