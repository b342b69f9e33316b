use Rattle.std.proofs.Common.{◌≡◌, ℕ, length, None}
use Rattle.sync_course.specs.declared.TheConstants.{PIECE_LEN}
use Rattle.sync_node.specs.Keeps.{LinksKeep}
use Rattle.sync_node.specs.Node.{AreAttached}
use Rattle.sync_node.specs.OnRuns.{LinksWent}
use Rattle.sync_node.proofs.turning.turn_each.Given as goal

abbrev pub invariant-links : goal.invariant-links
invariant-links g l = record {
  keeps : LinksKeep (g.C.Clients.meaning l.clients) l.initial.links l.links l.initial.store l.store
      (g.H.Disk.tells l.initial.host) (g.H.Disk.tells l.host) None;
  went : (first : ℕ) → AreAttached first l.initial.links l.initial.store.state.facts
      → LinksWent l.place (g.C.Clients.meaning l.clients) first l.initial.links l.links l.initial.store l.store (g.H.Disk.tells l.initial.host) (g.H.Disk.tells l.host) l.still;
  whole : length l.buffer ≡ PIECE_LEN;
}
