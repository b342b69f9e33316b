-- A journal of format 2 of which the brief account is written into the other file, and then made
-- the journal.
use Rattle.std.specs.Prelude.{◌≡◌, ◌⊎◌, ℕ, ◌+◌, ◌<◌, ◌≤◌, List, Option, Result, Ok, Err}
use Rattle.std.specs.Prelude.{Some}
use Rattle.outside.specs.Disk.{RelatesTold}
use Rattle.outside.specs.Files.{Two, File}
use Rattle.outside.specs.Links.{sent_of}
use Rattle.outside.specs.Outside.{Moment, MomentsAre, Outside}
use Rattle.frame_journal.specs.Journal.{JournalValue}
use Rattle.sync_rules.specs.declared.entries.Entry.{Entry}
use Rattle.sync_rules.specs.Clients.{Meaning}
use Rattle.sync_rules.specs.Facts.{Facts}
use Rattle.brief_account.specs.Account.{brief_of}
use Rattle.brief_account.specs.Brief.{brief}
use Rattle.entry_codec.specs.declared.naming.Format.TheVariants as kind
use Rattle.entry_codec.specs.Payloads.{journal_end}
use Rattle.entry_codec.specs.Standing.{journal, room_of}
use Rattle.file_standing.specs.Standing.{stands}
use Rattle.journal_migration.specs.Migrating.{HoldsSecond, IsAsBeforeOrCleared, KeepsFile}
use Rattle.journal_migration.specs.Migrating.{other_number}
use Rattle.journal_compaction.specs.declared.fault.CompactionFault.{CompactionFault}
use Rattle.journal_compaction.specs.declared.fault.CompactionFault.TheVariants as fault

-- where the brief account of a journal with these facts ends, and the room behind it for the steps
-- that are left
abbrev pub compacted_len : Meaning → Facts → ℕ
compacted_len clients f = journal_end kind.Short (brief_of clients f) + room_of kind.Short f

-- the journal that a brief account of these facts makes of another: in the other file, in format 2,
-- with the next generation
pub record IsCompacted (clients : Meaning) (f : Facts) (m n : JournalValue) : Type 0 where
  pub file_is : n.file ≡ other_number m.file
  pub format_is : n.format ≡ 2
  pub generation_is : n.generation ≡ m.generation + 1
  pub end_is : n.end ≡ journal_end kind.Short (brief_of clients f)

-- Full comes exactly where the brief account and its room pass the limit. Nothing is said of want
-- of memory, which may come
-- before the account is known.
abbrev pub WeighsAccount : Meaning → Facts → (limit : ℕ) → Result JournalValue CompactionFault
    → Type 0
WeighsAccount clients f limit (Ok n) = compacted_len clients f ≤ limit
WeighsAccount clients f limit (Err fault.Full) = limit < compacted_len clients f
WeighsAccount clients f limit (Err fault.Memory) = Unit {0}
WeighsAccount clients f limit (Err fault.DiskFault) = compacted_len clients f ≤ limit

-- a moment whose files stand for the journal or for its brief account, nothing more being sent
pub record StandsForEither (clients : Meaning) (j : List (List Entry)) (sent : List (List ℕ))
    (m : Moment) : Type 0 where
  pub stands_for : (stands clients m.files ≡ journal j)
      ⊎ (stands clients m.files ≡ journal (brief j))
  pub nothing_sent : m.sent ≡ sent

-- what the files hold at the end, by the answer
abbrev pub FilesHoldCompacted : Meaning → JournalValue → List (List Entry)
    → Result JournalValue CompactionFault → Two File
    → Type 0
FilesHoldCompacted clients m j (Ok n) two = HoldsSecond clients n (brief j) two
FilesHoldCompacted clients m j (Err fault.Full) two = HoldsSecond clients m j two
FilesHoldCompacted clients m j (Err fault.Memory) two = HoldsSecond clients m j two
FilesHoldCompacted clients m j (Err fault.DiskFault) two = Unit {0}

-- at each moment the files stand for the journal or for its brief account, and at the end they hold
-- what the answer says
pub record CompactsJournal (clients : Meaning) (m : JournalValue) (j : List (List Entry))
    (old new : Outside)
    (result : Result JournalValue CompactionFault) : Type 0 where
  pub moments : MomentsAre old new (StandsForEither clients j (sent_of old.links.told))
  pub ends : (two : Two File) → new.files ≡ Some two → FilesHoldCompacted clients m j result two

-- The journal's own file is as before. Where a call on the disk failed this is not said.
abbrev pub KeepsOwn : (file : ℕ) → (old new : Option (Two File))
    → Result JournalValue CompactionFault → Type 0
KeepsOwn file old new (Err fault.DiskFault) = Unit {0}
KeepsOwn file old new _ = RelatesTold (KeepsFile file) old new

-- Where no memory was found nothing is left of what was written of the other file.
abbrev pub LeavesNothing : (other : ℕ) → (old new : Option (Two File))
    → Result JournalValue CompactionFault → Type 0
LeavesNothing other old new (Err fault.Memory) =
    RelatesTold (IsAsBeforeOrCleared other) old new
LeavesNothing other old new _ = Unit {0}
