-- What loading a store comes to.
use Rattle.std.specs.Prelude.{◌≡◌, List, Option, Result, Ok, Err}
use Rattle.outside.specs.declared.limits.TheConstants.{MAX_JOURNAL}
use Rattle.outside.specs.Disk.{RelatesTold}
use Rattle.outside.specs.Faults.{CountRose}
use Rattle.outside.specs.Files.{File, SyncsBoth, Two}
use Rattle.outside.specs.Outside.{Outside}
use Rattle.sync_rules.specs.declared.entries.Entry.{Entry}
use Rattle.sync_rules.specs.Clients.{Meaning}
use Rattle.sync_rules.specs.Facts.{facts}
use Rattle.entry_codec.specs.Standing.{Standing, no_store, damaged, journal}
use Rattle.sync_store.specs.Ready.{IsReady}
use Rattle.sync_store.specs.Store.{StoreValue}
use Rattle.sync_words.specs.declared.outcome.Outcome.{Outcome}
use Rattle.sync_words.specs.declared.outcome.Outcome.TheVariants as outcome
use Rattle.store_commands.specs.Show.{KeepsFiles, FilesReadSame}

-- the causes, whatever the disk tells
abbrev pub LoadedBy : (old new : Outside) → Result StoreValue Outcome → Type 0
LoadedBy old new (Ok s) = Unit {0}
LoadedBy old new (Err outcome.DiskFault) = CountRose old.disk_faults new.disk_faults
LoadedBy old new (Err outcome.NoStore) = Unit {0}
LoadedBy old new (Err (outcome.Damaged place)) = Unit {0}
LoadedBy old new (Err outcome.Memory) = Unit {0}
LoadedBy old new (Err _) = ⊥

-- the store has the facts of the journal that the files stand for
pub record HasFacts (standing : Standing) (s : StoreValue) : Type 0 where
  pub of : List (List Entry)
  pub stood : standing ≡ journal of
  pub are : facts of ≡ s.state.facts

-- by what the files stand for
abbrev pub IsLoaded : Standing → Result StoreValue Outcome → Type 0
IsLoaded standing (Ok s) = HasFacts standing s
IsLoaded standing (Err outcome.NoStore) = standing ≡ no_store
IsLoaded standing (Err (outcome.Damaged place)) = standing ≡ damaged place.file place.at
IsLoaded standing (Err _) = Unit {0}

-- a store that may be added to, up to the greatest length of a journal
pub record MayExtend (clients : Meaning) (s : StoreValue) (files : Option (Two File)) : Type 0 where
  pub ready : IsReady clients s files
  pub limited : s.limit ≡ MAX_JOURNAL

abbrev pub IsStoreOpened : Meaning → Option (Two File) → Result StoreValue Outcome → Type 0
IsStoreOpened clients files (Ok s) = MayExtend clients s files
IsStoreOpened clients files (Err _) = Unit {0}

-- the files read as before, but where a call on the disk failed
abbrev pub LoadKeeps : Result StoreValue Outcome → Two File → Two File → Type 0
LoadKeeps (Ok s) two two' = FilesReadSame two two'
LoadKeeps (Err came) two two' = KeepsFiles came two two'

-- but for a fault of the disk the files read as before, with nothing pending in them
abbrev pub LoadLeavesSettled : Option (Two File) → Option (Two File) → Result StoreValue Outcome
    → Type 0
LoadLeavesSettled old new (Err outcome.DiskFault) = Unit {0}
LoadLeavesSettled old new (Ok s) = RelatesTold SyncsBoth old new
LoadLeavesSettled old new (Err _) = RelatesTold SyncsBoth old new
