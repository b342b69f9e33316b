use Rattle.std.proofs.Common.{◌+◌, length, true, None}
use Rattle.sync_node.specs.Keeps.{LinkGathers}
use Rattle.sync_node.specs.OnLinks.{NextWent}
use Rattle.sync_node.proofs.hearing.take_piece.Given as goal

abbrev pub invariant-items : goal.invariant-items
invariant-items g l = record {
  keeps : LinkGathers (g.C.Clients.meaning l.clients) l.number l.initial.link l.link l.initial.store
      l.store (g.H.Disk.tells l.initial.host) (g.H.Disk.tells l.host) None;
  went : NextWent l.initial.piece l.piece (g.C.Clients.meaning l.clients) l.number l.initial.link
      l.link l.initial.store l.store (g.H.Disk.tells l.initial.host) (g.H.Disk.tells l.host) true;
}

abbrev pub decreases-items : goal.decreases-items
decreases-items g l = length l.link.reader.bytes + length l.piece
