-- What an audit answers, by what the two files stand for.
use Rattle.std.specs.Prelude.{◌≡◌, true, ℕ, List, Option, Result, Ok, Err}
use Rattle.outside.specs.Disk.{RelatesTold}
use Rattle.outside.specs.Files.{File, SyncsBoth, Two}
use Rattle.entry_codec.specs.Standing.{Standing, damaged, journal, no_store}
use Rattle.file_standing.specs.Standing.{stands}
use Rattle.sync_rules.specs.declared.entries.Entry.{Entry}
use Rattle.sync_rules.specs.Clients.{Meaning}
use Rattle.sync_rules.specs.Legal.{Legal}
use Rattle.journal_audit.specs.declared.fault.AuditFault.{AuditFault}
use Rattle.journal_audit.specs.declared.fault.AuditFault.TheVariants as fault
use Rattle.journal_audit.specs.declared.files.Taken.{Taken}
use Rattle.journal_audit.specs.declared.report.Report.{Report}
use Rattle.journal_audit.specs.Reading.{IsDamage, whole_of}
use Rattle.journal_audit.specs.Reports.{EndsAreCounted, IsReport}

-- the files stand for a legal journal, of which this is the report
pub record IsAuditOf (clients : Meaning) (standing : Standing) (r : Report) : Type 0 where
  pub done : List (List Entry)
  pub stands_for : standing ≡ journal done
  pub legal : Legal clients done
  pub report : IsReport clients done r
  pub ends : r.settled ≡ true → EndsAreCounted done r

-- what was said of the frames of a file
abbrev pub ReportsFrames : Meaning → Standing → Result Report AuditFault → Type 0
ReportsFrames clients whole (Ok r) = IsAuditOf clients whole r
ReportsFrames clients whole (Err e) = IsDamage whole e

-- what was said of a standing
abbrev pub SaysOfStanding : Meaning → Standing → Result Report AuditFault → Type 0
SaysOfStanding clients standing (Ok r) = IsAuditOf clients standing r
SaysOfStanding clients standing (Err fault.Memory) = Unit {0}
SaysOfStanding clients standing (Err fault.NoStore) = standing ≡ no_store
SaysOfStanding clients standing (Err (fault.Damaged place)) = standing ≡ damaged place.file place.at
SaysOfStanding clients standing (Err fault.DiskFault) = Unit {0}

-- a report comes exactly where the files stand for a journal, and is that journal's; so with the others
abbrev pub IsAudited : Meaning → Two (List ℕ) → Result Report AuditFault → Type 0
IsAudited clients files answer = SaysOfStanding clients (stands clients files) answer

-- the journal's file was read, whose frames give what the files stand for; or they stand for none
abbrev pub IsFileTaken : Meaning → Two (List ℕ) → Result Taken AuditFault → Type 0
IsFileTaken clients files (Ok t) = stands clients files ≡ whole_of clients t.file t.format t.bytes.items
IsFileTaken clients files (Err fault.Memory) = Unit {0}
IsFileTaken clients files (Err fault.NoStore) = stands clients files ≡ no_store
IsFileTaken clients files (Err (fault.Damaged place)) = stands clients files ≡ damaged place.file place.at
IsFileTaken clients files (Err fault.DiskFault) = Unit {0}

-- but for a fault of the disk the files read as before, with nothing pending in them
abbrev pub AuditLeavesSettled : Option (Two File) → Option (Two File) → Result Report AuditFault → Type 0
AuditLeavesSettled old new (Ok r) = RelatesTold SyncsBoth old new
AuditLeavesSettled old new (Err fault.Memory) = RelatesTold SyncsBoth old new
AuditLeavesSettled old new (Err fault.NoStore) = RelatesTold SyncsBoth old new
AuditLeavesSettled old new (Err (fault.Damaged place)) = RelatesTold SyncsBoth old new
AuditLeavesSettled old new (Err fault.DiskFault) = Unit {0}
