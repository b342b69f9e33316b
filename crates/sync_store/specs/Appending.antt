-- Which calls of the disk a run of a store's calls makes.
use Rattle.std.specs.Prelude.{◌≡◌, ℕ, ◌*◌, true, false}
use Rattle.outside.specs.Outside.{Outside, MakesAtMost, MakesJust}
use Rattle.frame_journal.specs.Appends.{Appends, BreaksAppends}
use Rattle.sync_store.specs.Store.{StoreValue}

-- A store appended to its file, from its end on to that of the store that it became. Where that is closed, a call
-- failed, and the appends were broken off in it.
pub record AppendsFor (old new : StoreValue) (o o' : Outside) : Type 0 where
  pub all : new.closed ≡ false → Appends old.file old.end new.end o o'
  pub broken : old.closed ≡ false → new.closed ≡ true → BreaksAppends old.file old.end o o'

-- How many calls of the disk it takes to add so many groups of batches: four each, and where a call
-- failed, so that the store is closed, no more; and which.
pub record CallsFor (groups : ℕ) (old new : StoreValue) (o o' : Outside) : Type 0 where
  pub just : new.closed ≡ false → MakesJust (4 * groups) o o'
  pub most : MakesAtMost (4 * groups) o o'
  pub appends : AppendsFor old new o o'
