-- A store that stays loaded while commands come: what a command over it rests on, and what stands
-- behind it.
use Rattle.std.specs.Prelude.{◌≡◌, ◌⊎◌, Bool, true, false, List, [], ◌∷◌, Some, Result, Err}
use Rattle.std.specs.List.{list_all}
use Rattle.outside.specs.Disk.{RelatesTold}
use Rattle.outside.specs.Files.{File, SyncsBoth, Two, read_files}
use Rattle.outside.specs.Outside.{DiskRun, Outside}
use Rattle.sync_ids.specs.Values.{GroupValue}
use Rattle.sync_rules.specs.declared.entries.Entry.{Entry}
use Rattle.sync_rules.specs.declared.entries.Entry.TheVariants as entry
use Rattle.sync_rules.specs.Clients.{Meaning}
use Rattle.sync_rules.specs.Growth.{leaves_steps}
use Rattle.sync_rules.specs.Steps.{IsSettled}
use Rattle.entry_codec.specs.declared.naming.Format.TheVariants as kind
use Rattle.file_standing.specs.Standing.{stands}
use Rattle.sync_store.specs.Store.{StoreValue, written_in}
use Rattle.sync_words.specs.declared.outcome.Outcome.{Outcome}
use Rattle.sync_words.specs.declared.outcome.Outcome.TheVariants as outcome
use Rattle.store_commands.specs.declared.commit.Settling.{Settling}
use Rattle.store_commands.specs.declared.commit.Settling.TheVariants as settling
use Rattle.store_commands.specs.Load.{HasFacts, MayExtend}
use Rattle.store_commands.specs.Show.{FilesReadSame, LeavesFilesSo}

-- ---- a store that is loaded

-- A store was loaded since this start, and may be added to: the files read as at the start, each
-- moment is as a crash might have left them then, and nothing is pending in them. The store has the
-- facts of the journal that they stand for.
pub record WasLoaded (clients : Meaning) (s : StoreValue) (start now : Outside) : Type 0 where
  pub run : DiskRun start now
  pub rests : (two : Two File) → start.files ≡ Some two
      → LeavesFilesSo (FilesReadSame two) two start now
  pub facts : (two : Two File) → start.files ≡ Some two
      → HasFacts (stands clients (read_files two)) s
  pub synced : RelatesTold SyncsBoth start.files now.files
  pub opened : MayExtend clients s now.files

-- a store is loaded as its files are, and its journal is in format 2
pub record IsReadyToServe (clients : Meaning) (s : StoreValue) (o : Outside) : Type 0 where
  pub loaded : WasLoaded clients s o o
  pub short : written_in s ≡ kind.Short

-- a store is loaded as its files are, and its journal is in format 2 and settled
pub record IsServed (clients : Meaning) (s : StoreValue) (o : Outside) : Type 0 where
  pub ready : IsReadyToServe clients s o
  pub settled : IsSettled clients s.state.facts

-- ---- what stands behind a command

-- The store is served as before, whatever the outcome was. Where memory was wanting its journal may
-- have a step left, and is to be settled before the next command; behind a fault of the disk the
-- store is not used again.
abbrev pub ServesOn : Meaning → StoreValue → Outside → Outcome → Type 0
ServesOn clients s o outcome.DiskFault = Unit {0}
ServesOn clients s o outcome.Memory = IsReadyToServe clients s o
ServesOn clients s o _ = IsServed clients s o

-- ---- the sessions of a store

-- a call left the sessions of a store as they were
pub record LeavesSessions (s s' : StoreValue) : Type 0 where
  pub sessions : s'.state.facts.sessions ≡ s.state.facts.sessions
  pub begun : s'.state.facts.begun ≡ s.state.facts.begun

-- so whatever the outcome was, but for a fault of the disk
abbrev pub LeavesSessionsBy : StoreValue → StoreValue → Outcome → Type 0
LeavesSessionsBy s s' outcome.DiskFault = Unit {0}
LeavesSessionsBy s s' _ = LeavesSessions s s'

-- an entry begins no session, and says of none that it began
abbrev pub begins_none : Entry → Bool
begins_none (entry.Session s) = false
begins_none (entry.Brief n) = false
begins_none _ = true

-- ---- a batch behind a settled journal

-- it leaves all that steps read, or it adds one group
abbrev pub LeavesSettled : List Entry → Type 0
LeavesSettled batch =
    (list_all leaves_steps batch ≡ true)
    ⊎ ((def : GroupValue) × (batch ≡ entry.Group def ∷ []))

-- so the journal is settled behind it too; or settling follows
abbrev pub KeepsSettled : Settling → List Entry → Type 0
KeepsSettled settling.Before batch = LeavesSettled batch
KeepsSettled settling.BeforeAndAfter batch = Unit {0}

-- a store is settled, but where memory was wanting or the disk failed
abbrev pub StaysSettled : Meaning → StoreValue → Result (Unit {0}) Outcome → Type 0
StaysSettled clients s (Err outcome.Memory) = Unit {0}
StaysSettled clients s (Err outcome.DiskFault) = Unit {0}
StaysSettled clients s _ = IsSettled clients s.state.facts
