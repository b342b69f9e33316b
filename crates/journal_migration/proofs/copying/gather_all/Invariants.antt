use Rattle.std.proofs.Common.{◌≡◌, ◌-◌, ℕ, List, Some}
use Rattle.std.specs.Option.{ForSome}
use Rattle.outside.specs.Disk.{RelatesTold}
use Rattle.outside.specs.Files.{Two, File}
use Rattle.outside.specs.Outside.{DiskRun}
use Rattle.frame_journal.specs.Create.{LeavesClosed}
use Rattle.sync_rules.specs.declared.entries.Entry.{Entry}
use Rattle.sync_rules.specs.Clients.{Meaning}
use Rattle.journal_migration.specs.Copying.{AreBothShut, GathersBatches, IsGathering, IsPair}
use Rattle.journal_migration.specs.Copying.{IsSamePair}
use Rattle.journal_migration.specs.Migrating.{KeepsJournal}
use Rattle.journal_migration.proofs.copying.gather_all.Given as goal

-- the frames so far are copied, or wait
abbrev pub invariant-frames : goal.invariant-frames
invariant-frames g l = record {
  pair : IsPair l.reader l.writer;
  waits : IsGathering l.reader l.writer l.group;
  works : ForSome (g.D.Disk.tells l.disk).files (AreBothShut l.reader l.writer);
  same : IsSamePair l.fn.reader l.reader l.fn.writer l.writer;
  copies : (clients : Meaning) (generation : ℕ) (j : List (List Entry)) (two : Two File)
      → (g.D.Disk.tells l.fn.disk).files ≡ Some two
      → GathersBatches clients l.state.facts generation j l.fn.reader l.fn.writer l.fn.group 0 two
      → KeepsJournal clients j
      (GathersBatches clients l.state.facts generation j l.reader l.writer l.group l.count)
      (g.D.Disk.tells l.fn.disk) (g.D.Disk.tells l.disk);
  leaves : RelatesTold (LeavesClosed l.fn.writer.file) (g.D.Disk.tells l.fn.disk).files
      (g.D.Disk.tells l.disk).files;
  run : DiskRun (g.D.Disk.tells l.fn.disk) (g.D.Disk.tells l.disk);
}

abbrev pub decreases-frames : goal.decreases-frames
decreases-frames g l = 268435457 - l.reader.end
