use Rattle.std.proofs.Common.{drop, take}
use Rattle.std.specs.List.{AllByRecursion}
use Rattle.std.specs.Option.{ForSome}
use Rattle.outside.specs.Disk.{RelatesTold}
use Rattle.outside.specs.Outside.{DiskRun}
use Rattle.frame_journal.specs.Create.{LeavesClosed}
use Rattle.frame_journal.specs.Group.{IsGroup}
use Rattle.entry_codec.specs.Spelling.{IsEntry}
use Rattle.journal_compaction.specs.Items.{entry_of}
use Rattle.journal_migration.specs.Starting.{StaysShut}
use Rattle.journal_compaction.specs.Writing.{HasSpace, IsWriterShut, Written}
use Rattle.journal_compaction.proofs.writing.write_items.Given as goal

-- the items so far are written, or are in the payload that is being filled
abbrev pub invariant-items : goal.invariant-items
invariant-items g l = record {
  space : HasSpace l.left l.page.payload.items;
  within : AllByRecursion (λ i. IsEntry (entry_of l.state.facts i)) (take l.item-index l.items);
  written : Written l.state.facts l.most l.items
      (drop l.item-index l.items) l.left l.page.payload.items l.fn.writer
      l.writer l.fn.page.group l.page.group
      (g.D.Disk.tells l.fn.disk).files (g.D.Disk.tells l.disk).files;
  waits : IsGroup l.page.group;
  works : ForSome (g.D.Disk.tells l.disk).files (IsWriterShut l.writer);
  shut : StaysShut l.fn.writer.file (g.D.Disk.tells l.fn.disk) (g.D.Disk.tells l.disk);
  leaves : RelatesTold (LeavesClosed l.fn.writer.file) (g.D.Disk.tells l.fn.disk).files
      (g.D.Disk.tells l.disk).files;
  run : DiskRun (g.D.Disk.tells l.fn.disk) (g.D.Disk.tells l.disk);
}
