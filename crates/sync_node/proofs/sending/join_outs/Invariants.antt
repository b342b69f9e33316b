use Rattle.std.proofs.Common.{◌-◌, None}
use Rattle.sync_course.specs.declared.TheConstants.{MAX_OUTPUTS}
use Rattle.sync_node.specs.Keeps.{LinkGathers}
use Rattle.sync_node.specs.OnLinks.{OutsUnder}
use Rattle.sync_node.proofs.sending.join_outs.Given as goal

abbrev pub invariant-outs : goal.invariant-outs
invariant-outs g l = record {
  keeps : LinkGathers (g.C.Clients.meaning l.clients) l.number l.link l.link l.initial.store l.store
      (g.H.Disk.tells l.initial.host) (g.H.Disk.tells l.host) None;
  under : OutsUnder l.now l.outs.made l.outs.bytes.items (g.C.Clients.meaning l.clients) l.number
      l.link l.initial.store l.store (g.H.Disk.tells l.initial.host) (g.H.Disk.tells l.host);
}

abbrev pub decreases-outs : goal.decreases-outs
decreases-outs g l = MAX_OUTPUTS - l.outs.made
