use Rattle.std.proofs.Common.{◌≡◌, ◌-◌}
use Rattle.std.specs.Prelude.{Some}
use Rattle.outside.specs.Files.{Two, File}
use Rattle.outside.specs.Outside.{OnlyReads}
use Rattle.sync_store.specs.Loading.{PlayedSoFar}
use Rattle.sync_store.proofs.LoadCounts.{CountsSo}
use Rattle.sync_store.proofs.load.read_all.Given as goal

-- the batches so far are played, and the disk was only read
abbrev pub invariant-frames : goal.invariant-frames
invariant-frames g l = record {
  so_far : PlayedSoFar (g.C.Clients.meaning l.clients)
      (g.D.Disk.tells l.disk).files l.journal l.state;
  counts : (two : Two File) → (g.D.Disk.tells l.disk).files ≡ Some two
      → CountsSo (g.C.Clients.meaning l.clients) (g.D.Disk.tells l.fn.disk) (g.D.Disk.tells l.disk)
      l.journal l.state two;
  looks : OnlyReads (g.D.Disk.tells l.fn.disk) (g.D.Disk.tells l.disk);
}

abbrev pub decreases-frames : goal.decreases-frames
decreases-frames g l = 268435457 - l.journal.end
