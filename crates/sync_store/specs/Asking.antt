-- Which calls of the disk a load makes.
use Rattle.std.specs.Prelude.{◌⊎◌, ◌≤◌, List, [], ◌∷◌, Option, Some, Result, Err}
use Rattle.outside.specs.Calls.{Calls, ChangesNone}
use Rattle.outside.specs.Changes.{Change, synced}
use Rattle.outside.specs.Disk.{RelatesTold}
use Rattle.outside.specs.Made.{BreaksIn, MadeAll}
use Rattle.outside.specs.Outside.{Outside}
use Rattle.sync_store.specs.declared.fault.LoadFault.{LoadFault}
use Rattle.sync_store.specs.declared.fault.LoadFault.TheVariants as load

-- both files are synced
abbrev pub barrier_calls : List (Option Change)
barrier_calls = Some (synced 0) ∷ Some (synced 1) ∷ []

-- they were, and behind that some calls were made that only look
pub record LooksBehind (old new : Calls) : Type 0 where
  pub mid : Calls
  pub barrier : MadeAll barrier_calls old mid
  pub looks : ChangesNone mid new
  pub later : mid.made ≤ new.made

-- A load did so, or its disk failed in the first two.
abbrev pub LoadDoes : {T : Type 0} → Result T LoadFault → Outside → Outside → Type 0
LoadDoes (Err load.DiskFault) old new =
    BreaksIn barrier_calls old new ⊎ RelatesTold LooksBehind old.calls new.calls
LoadDoes _ old new = RelatesTold LooksBehind old.calls new.calls
