use Rattle.std.proofs.Common.{◌≡◌, ◌≤◌, length, take}
use Rattle.std.specs.Prelude.{vec_capacity}
use Rattle.sync_run.specs.Dialling.{AreDialled, DialsOnly, MakesLinks, NoneFailed}
use Rattle.sync_run.proofs.dialling.dial_all.Given as goal

abbrev pub invariant-links : goal.invariant-links
invariant-links g l = record {
  count : length l.to.items ≡ l.words-index;
  room : length l.links ≤ vec_capacity l.to;
  dialled : AreDialled l.links l.to.items;
  makes : MakesLinks (take l.words-index l.links) (g.H.Disk.tells l.initial.host).links (g.H.Disk.tells l.host).links;
  unfailed : NoneFailed (g.H.Disk.tells l.initial.host).links.faults
      (g.H.Disk.tells l.host).links.faults;
  calms : DialsOnly (g.H.Disk.tells l.initial.host) (g.H.Disk.tells l.host);
}
