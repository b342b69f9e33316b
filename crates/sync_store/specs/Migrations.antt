-- A store whose journal is written anew in format 2.
use Rattle.std.specs.Prelude.{◌≡◌, ◌⊎◌, ◌+◌, ◌-◌, ◌^◌, ◌<◌, ◌≤◌, true, false, [], Option, Result, Ok, Err}
use Rattle.outside.specs.Disk.{RelatesTold}
use Rattle.outside.specs.Files.{Two, File}
use Rattle.outside.specs.Outside.{Outside}
use Rattle.sync_rules.specs.Clients.{Meaning}
use Rattle.entry_codec.specs.declared.naming.Format.TheVariants as kind
use Rattle.journal_migration.specs.Migrating.{KeepsFile}
use Rattle.sync_store.specs.Store.{StoreValue, written_in}
use Rattle.sync_store.specs.Runs.{LeadsBy}
use Rattle.sync_store.specs.declared.fault.StoreFault.{StoreFault}
use Rattle.sync_store.specs.declared.fault.StoreFault.TheVariants as fault

-- the journal is in format 1, and no further generation is left for it
pub record IsSpent (s : StoreValue) : Type 0 where
  pub whole : written_in s ≡ kind.Whole
  pub last : s.generation ≡ 2 ^ 64 - 1

-- the journal is in format 1, and a further generation is left
pub record IsInOldFormat (s : StoreValue) : Type 0 where
  pub whole : written_in s ≡ kind.Whole
  pub generation : s.generation < 2 ^ 64 - 1

-- The journal moved to the other file: it is there in format 2, with the next generation, and ends
-- no later. All else that contracts see of the store is as before.
pub record MovesJournal (old new : StoreValue) : Type 0 where
  pub was : IsInOldFormat old
  pub state : new.state ≡ old.state
  pub file : new.file ≡ 1 - old.file
  pub format : new.format ≡ 2
  pub generation : new.generation ≡ old.generation + 1
  pub end : new.end ≤ old.end
  pub limit : new.limit ≡ old.limit
  pub closed : new.closed ≡ false

-- A journal in format 2 stays where it is. Full comes exactly where one in format 1 has the last
-- generation, and then all is as before; so it is after Memory, and after DiskFault, but that the
-- store is closed then.
abbrev pub AnswersMigrate : StoreValue → StoreValue → Result (Unit {0}) StoreFault → Type 0
AnswersMigrate old new (Ok _) = ((written_in old ≡ kind.Short) × (new ≡ old)) ⊎ MovesJournal old new
AnswersMigrate old new (Err fault.Closed) = ⊥
AnswersMigrate old new (Err fault.Full) = IsSpent old × (new ≡ old)
AnswersMigrate old new (Err fault.Memory) = IsInOldFormat old × (new ≡ old)
AnswersMigrate old new (Err fault.DiskFault) =
    IsInOldFormat old × (new ≡ record old { closed = true })

-- The file that the store's journal was in is as before, so it still has that journal. Where a call
-- on the disk failed this is not said.
abbrev pub KeepsOwnFile : StoreValue → (old new : Option (Two File)) → Result (Unit {0}) StoreFault
    → Type 0
KeepsOwnFile s old new (Err fault.DiskFault) = Unit {0}
KeepsOwnFile s old new _ = RelatesTold (KeepsFile s.file) old new

-- A store that is not closed was migrated, as far as the answer says: at each moment, and at the
-- end, the files stand for the same journal. The journal's own file is only read.
pub record HasMigrated (clients : Meaning) (old new : StoreValue)
    (result : Result (Unit {0}) StoreFault) (o o' : Outside) : Type 0 where
  pub answer : AnswersMigrate old new result
  pub leads : LeadsBy clients old new o o' []
  pub own : KeepsOwnFile old o.files o'.files result

-- the disk is as before where no call on it is made: where the journal is in format 2, and where it
-- has the last generation
abbrev pub UntouchedDisk : {D : Type 0} → StoreValue → D → D → Type 0
UntouchedDisk s old new = ((written_in s ≡ kind.Short) ⊎ IsSpent s) → new ≡ old
