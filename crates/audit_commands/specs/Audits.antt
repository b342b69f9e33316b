-- What `audit` does: it writes nothing to the files, and prints the line of the report on the
-- journal that they stand for, or tells that they stand for none.
use Rattle.std.specs.Prelude.{◌≡◌, ◌⊎◌, Option, Some, None, Result, Ok, Err}
use Rattle.outside.specs.Disk.{RelatesTold}
use Rattle.outside.specs.Faults.{CountRose}
use Rattle.outside.specs.Files.{File, SyncsBoth, Two, read_files}
use Rattle.outside.specs.Outside.{DiskRun, Outside}
use Rattle.outside.specs.Streams.{Stream}
use Rattle.entry_codec.specs.Standing.{Standing, damaged, no_store}
use Rattle.file_standing.specs.Standing.{stands}
use Rattle.sync_rules.specs.Clients.{Meaning}
use Rattle.journal_audit.specs.declared.report.Report.{Report}
use Rattle.journal_audit.specs.Answers.{IsAuditOf}
use Rattle.store_commands.specs.Show.{FilesReadSame, LeavesFilesSo, PrintsText}
use Rattle.store_commands.specs.Stopping.{NeverReads, StopsEarly}
use Rattle.sync_words.specs.declared.outcome.Outcome.{Outcome}
use Rattle.sync_words.specs.declared.outcome.Outcome.TheVariants as outcome
use Rattle.audit_commands.specs.Texts.{legal_text}

-- ---- the audit

-- the causes, whatever the disk tells
abbrev pub AuditedBy : (old new : Outside) → Result Report Outcome → Type 0
AuditedBy old new (Ok r) = Unit {0}
AuditedBy old new (Err outcome.DiskFault) = CountRose old.disk_faults new.disk_faults
AuditedBy old new (Err outcome.NoStore) = Unit {0}
AuditedBy old new (Err (outcome.Damaged place)) = Unit {0}
AuditedBy old new (Err outcome.Memory) = Unit {0}
AuditedBy old new (Err _) = ⊥

-- by what the files stand for
abbrev pub TellsOutcome : Meaning → Standing → Result Report Outcome → Type 0
TellsOutcome clients standing (Ok r) = IsAuditOf clients standing r
TellsOutcome clients standing (Err outcome.NoStore) = standing ≡ no_store
TellsOutcome clients standing (Err (outcome.Damaged place)) = standing ≡ damaged place.file place.at
TellsOutcome clients standing (Err _) = Unit {0}

-- but for a fault of the disk the files read as before, with nothing pending in them
abbrev pub LeavesSynced : Option (Two File) → Option (Two File) → Result Report Outcome → Type 0
LeavesSynced old new (Err outcome.DiskFault) = Unit {0}
LeavesSynced old new (Ok r) = RelatesTold SyncsBoth old new
LeavesSynced old new (Err _) = RelatesTold SyncsBoth old new

-- ---- the command

-- the files read as before; and but for a fault of the disk nothing is pending in them
abbrev pub KeepsSynced : Outcome → (two two' : Two File) → Type 0
KeepsSynced outcome.DiskFault two two' = FilesReadSame two two'
KeepsSynced came two two' = SyncsBoth two two'

-- the line of a report was printed, which is that on the journal that the files stand for
pub record HasReported (clients : Meaning) (old : Outside) (out out' : Stream)
    (came : Outcome) : Type 0 where
  pub report : Report
  pub printed : PrintsText (legal_text report) out out' came
  pub audit : (two : Two File) → old.files ≡ Some two
      → IsAuditOf clients (stands clients (read_files two)) report

-- an audit: its report is printed; or it stopped before, and no test refuses it
pub record HasAudited (clients : Meaning) (old new : Outside) (out out' : Stream)
    (came : Outcome) : Type 0 where
  pub run : DiskRun old new
  pub rests : (two : Two File) → old.files ≡ Some two
      → LeavesFilesSo (KeepsSynced came two) two old new
  pub did : StopsEarly clients (λ f. None) NeverReads old new out out' came
      ⊎ HasReported clients old out out' came
