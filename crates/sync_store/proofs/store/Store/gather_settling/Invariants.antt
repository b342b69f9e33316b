use Rattle.outside.specs.Outside.{DiskRun}
use Rattle.sync_rules.specs.Left.{left_of}
use Rattle.sync_store.specs.Groups.{IsGathering}
use Rattle.sync_store.specs.Store.{IsStore}
use Rattle.sync_store.proofs.SettleLoop.{SettlesWhile}
use Rattle.sync_store.proofs.store.Store.gather_settling.Given as goal

-- settling was gathered so far behind what waited, and a further batch may be
abbrev pub invariant-batches : goal.invariant-batches
invariant-batches g l = record {
  gathering : IsGathering (g.C.Clients.meaning l.clients) l.self (g.D.Disk.tells l.disk).files;
  numbers : IsStore l.self;
  run : DiskRun (g.D.Disk.tells l.fn.disk) (g.D.Disk.tells l.disk);
  settles : SettlesWhile (g.C.Clients.meaning l.clients) l.fn.self l.self
      (g.D.Disk.tells l.fn.disk) (g.D.Disk.tells l.disk);
}

abbrev pub decreases-batches : goal.decreases-batches
decreases-batches g l = left_of l.self.state.facts
